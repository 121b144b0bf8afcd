-- Slots by name, and the names of places.
use Rattle.std.proofs.Common.{◌≡◌, ℕ, zero, suc, ◌+◌, ◌/◌, ◌%◌, ◌^◌, ◌<◌, ◌≤◌, Bool, true, false, cond, ltb, List, [], ◌∷◌, ◌++◌, length, map, position, get_or, IsTrue, decimal, refl, ap, sym, ◌∙◌, arith}
use Rattle.std.specs.List.{position_or_len, list_all}
use Rattle.std.specs.Str.{bytes_eq}
use Rattle.std.specs.declared.option.Option.{Option}
use Rattle.std.specs.declared.option.Option.TheVariants.{None, Some}
use Rattle.std.proofs.lemmas.Bool.{and_from, agree_below_at}
use Rattle.std.proofs.lemmas.Fmt.{decimal_by_steps, length-decimal-le}
use Rattle.std.proofs.lemmas.List.Folds.{list_all-append}
use Rattle.std.proofs.lemmas.List.Quantifiers.{position-Some}
use Rattle.flow_base.specs.Names.{letter, name_byte, is_name_text, IsName}
use Rattle.flow_tree.specs.declared.decl.Slot.{Slot}
use Rattle.flow_tree.specs.DeclView.{slot_of}
use Rattle.flow_tree.specs.Decls.{SlotTree}
use Rattle.flow_choose.specs.Places.{slots_seen}

length-mapped : {X Y : Type 0} (f : X → Y) (xs : List X) → length (map f xs) ≡ length xs
length-mapped f [] = refl
length-mapped f (x ∷ xs) = ap suc (length-mapped f xs)

first_by : {X Y : Type 0} (f : X → Y) (p : Y → Bool) (xs : List X) → position_or_len p (map f xs) ≡ position_or_len (λ x. p (f x)) xs
first_by f p [] = refl
first_by f p (x ∷ xs) = grind (arith, first_by f p xs)

map-position : {X Y : Type 0} (f : X → Y) (p : Y → Bool) (xs : List X) → position p (map f xs) ≡ position (λ x. p (f x)) xs
map-position f p xs =
    ap (λ n. cond (ltb n (length (map f xs))) (Some n) None) (first_by f p xs)
    ∙ ap (λ n. cond (ltb (position_or_len (λ x. p (f x)) xs) n) (Some (position_or_len (λ x. p (f x)) xs)) None) (length-mapped f xs)

-- the first slot of a name, by the mirrors of the slots
pub position_slots : (ss : List Slot) (x : List ℕ) → position (λ (t : SlotTree). bytes_eq x t.name) (slots_seen ss) ≡ position (λ (s : Slot). bytes_eq x s.name) ss
position_slots ss x = map-position slot_of (λ (t : SlotTree). bytes_eq x t.name) ss

-- the place of a slot is below the number of slots
within : {X : Type 0} (p : X → Bool) (xs : List X) (i : ℕ) → position p xs ≡ Some i → i < length xs
within p [] i e = cc
within p (x ∷ xs) i e = (position-Some p (x ∷ xs) i x e).0

pub slot_within : (ss : List Slot) (x : List ℕ) (i : ℕ) → position (λ (t : SlotTree). bytes_eq x t.name) (slots_seen ss) ≡ Some i → i < length ss
slot_within ss x i e = within (λ (s : Slot). bytes_eq x s.name) ss i (sym (position_slots ss x) ∙ e)

-- decimal digits may follow in a name
digit_follows : (d : ℕ) → d < 10 → name_byte (48 + d) ≡ true
digit_follows d small = agree_below_at (λ k. name_byte (48 + k)) (λ _. true) 10 d refl small

digits_follow : (n : ℕ) → n < 2 ^ 64 → list_all name_byte (decimal n) ≡ true
digits_follow =
    decimal_by_steps (λ _ ds. list_all name_byte ds ≡ true)
    (λ n small. and_from (name_byte (48 + n)) true (digit_follows n small) refl)
    (λ n ds large before. list_all-append name_byte ds ((48 + n % 10) ∷ [])
    ∙ and_from (list_all name_byte ds) (list_all name_byte ((48 + n % 10) ∷ [])) before
    (and_from (name_byte (48 + n % 10)) true (digit_follows (n % 10) (omega arith)) refl))

-- a letter and a number are a name
pub place_is_name : (b n : ℕ) → IsTrue (letter b) → n < 2 ^ 32 → IsName (b ∷ decimal n)
place_is_name b n l small = record {
  form = and_from (letter b) (list_all name_byte (decimal n)) l (digits_follow n (omega arith));
  short = omega (arith, length-decimal-le 10 n (omega arith) (omega arith) (omega arith));
}
