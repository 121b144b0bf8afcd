-- Memories after writes, by place.
use Rattle.std.proofs.Common.{◌≡◌, ℕ, zero, suc, ◌<◌, nat_eq, Bool, true, false, ◌||◌, List, [], ◌∷◌, length, refl, sym, ap, ◌∙◌, subst, arith}
use Rattle.std.specs.Prelude.{slice_get, slice_set}
use Rattle.std.specs.List.{list_any}
use Rattle.std.specs.Option.{option_map}
use Rattle.std.specs.declared.option.Option.{Option}
use Rattle.std.specs.declared.option.Option.TheVariants.{None, Some}
use Rattle.flow_tree.specs.Tree.{TypeTree}
use Rattle.flow_tree.specs.Decls.{SlotTree, RecordTree}
use Rattle.flow_value.specs.Values.{ValueTree}
use Rattle.flow_eval.specs.Typed.{HasType}
use Rattle.flow_eval.proofs.TypedValues.{none_some, there_within}
use Rattle.flow_class.specs.declared.class.Slotted.{Slotted}
use Rattle.flow_class.specs.declared.class.Slotted.TheVariants.{Slot, Local}
use Rattle.flow_class.specs.Classes.{ClassTree}
use Rattle.flow_class.specs.Code.{type_at}
use Rattle.flow_valid.specs.Filling.{same_place, dropped}
use Rattle.flow_meaning.specs.Variables.{flat}
use Rattle.flow_meaning.specs.Frame.{Memory, read, write, emptied, blanks, all_emptied}
use Rattle.flow_progress.specs.Places.{HoldsTypes}

-- lists by number
set_same : (os : List (Option ValueTree)) (n : ℕ) (o : Option ValueTree) → n < length os → flat (slice_get (slice_set os n o) n) ≡ o
set_same [] n o h = absurd (omega arith)
set_same (x ∷ os) zero o h = refl
set_same (x ∷ os) (suc n) o h = set_same os n o (omega arith)

set_none : (os : List (Option ValueTree)) (n : ℕ) → flat (slice_get (slice_set os n None) n) ≡ None
set_none [] n = refl
set_none (x ∷ os) zero = refl
set_none (x ∷ os) (suc n) = set_none os n

set_other : (os : List (Option ValueTree)) (n k : ℕ) (o : Option ValueTree) → nat_eq k n ≡ false → flat (slice_get (slice_set os n o) k) ≡ flat (slice_get os k)
set_other [] n k o h = refl
set_other (x ∷ os) zero zero o h = absurd (same h)
  where
    same : nat_eq 0 0 ≡ false → ⊥
    same h = cc
set_other (x ∷ os) zero (suc k) o h = refl
set_other (x ∷ os) (suc n) zero o h = refl
set_other (x ∷ os) (suc n) (suc k) o h = set_other os n k o (let e : nat_eq k n ≡ false = grind (arith, h) in e)

set_length : (os : List (Option ValueTree)) (n : ℕ) (o : Option ValueTree) → length (slice_set os n o) ≡ length os
set_length [] n o = refl
set_length (x ∷ os) zero o = refl
set_length (x ∷ os) (suc n) o = ap suc (set_length os n o)

blanks_length : {A : Type 0} (xs : List A) → length (blanks xs) ≡ length xs
blanks_length [] = refl
blanks_length (x ∷ xs) = ap suc (blanks_length xs)

pub blank_at : {A : Type 0} (xs : List A) (n : ℕ) → flat (slice_get (blanks xs) n) ≡ None
blank_at [] n = refl
blank_at (x ∷ xs) zero = refl
blank_at (x ∷ xs) (suc n) = blank_at xs n

-- places
pub place_eq : (q p : Slotted) → same_place q p ≡ true → q ≡ p
place_eq (Slot m) (Slot n) h = let e : m ≡ n = grind (arith, h) in ap Slot e
place_eq (Local m) (Local n) h = let e : m ≡ n = grind (arith, h) in ap Local e
place_eq (Slot m) (Local n) h = absurd (no_true h)
  where
    no_true : false ≡ true → ⊥
    no_true h = cc
place_eq (Local m) (Slot n) h = absurd (no_true h)
  where
    no_true : false ≡ true → ⊥
    no_true h = cc

pub write_other : (m : Memory) (p q : Slotted) (o : Option ValueTree) → same_place q p ≡ false → read (write m p o) q ≡ read m q
write_other m (Slot n) (Slot k) o h = set_other m.slots n k o h
write_other m (Local n) (Local k) o h = set_other m.locals n k o h
write_other m (Slot n) (Local k) o h = refl
write_other m (Local n) (Slot k) o h = refl

-- a place of the class is in the memory
abbrev Within : Memory → Slotted → Type 0
Within m (Slot n) = n < length m.slots
Within m (Local n) = n < length m.locals

pub write_same : (m : Memory) (p : Slotted) (o : Option ValueTree) → Within m p → read (write m p o) p ≡ o
write_same m (Slot n) o h = set_same m.slots n o h
write_same m (Local n) o h = set_same m.locals n o h

pub within_of : (c : ClassTree) (m : Memory) (p : Slotted) (t : TypeTree) → length m.slots ≡ length c.slots → length m.locals ≡ length c.locals → type_at c p ≡ Some t → Within m p
within_of c m (Slot n) t s l h = by_slot (slice_get c.slots n) refl h
  where
    by_slot : (o : Option SlotTree) → slice_get c.slots n ≡ o → option_map (λ (s : SlotTree). s.ty) o ≡ Some t → n < length m.slots
    by_slot None e h = none_some t h
    by_slot (Some x) e h = omega (arith, there_within c.slots n x e, s)
within_of c m (Local n) t s l h = omega (arith, there_within c.locals n t h, l)

-- what fits fits when a value of its type is written
module _ (rs : List RecordTree) (typed : ℕ → TypeTree → Type 0) (c : ClassTree) where
  written_sizes : (m : Memory) (p : Slotted) (o : Option ValueTree) → (length (write m p o).slots ≡ length m.slots) × (length (write m p o).locals ≡ length m.locals)
  written_sizes m (Slot n) o = (set_length m.slots n o, refl)
  written_sizes m (Local n) o = (refl, set_length m.locals n o)

  pub write_holds : (m : Memory) (p : Slotted) (t : TypeTree) (v : ValueTree) → HoldsTypes rs typed c m → type_at c p ≡ Some t → HasType rs typed v t → HoldsTypes rs typed c (write m p (Some v))
  write_holds m p t v h at k =
      let z = written_sizes m p (Some v) in record {
        slots = z.0 ∙ h.slots;
        locals = z.1 ∙ h.locals;
        types = λ q u w e r. by_place q u w e r (same_place q p) refl;
      }
    where
      same : {X : Type 0} {x y : X} → Some x ≡ Some y → x ≡ y
      same h = cc

      by_place : (q : Slotted) (u : TypeTree) (w : ValueTree) → type_at c q ≡ Some u → read (write m p (Some v)) q ≡ Some w → (b : Bool) → same_place q p ≡ b → HasType rs typed w u
      by_place q u w e r true s =
          let f : q ≡ p = place_eq q p s in
          let value : v ≡ w = same (sym (write_same m p (Some v) (within_of c m p t h.slots h.locals at)) ∙ subst (λ z. read (write m p (Some v)) z ≡ Some w) f r) in
          let type : t ≡ u = same (sym at ∙ subst (λ z. type_at c z ≡ Some u) f e) in
          subst (λ z. HasType rs typed z u) value (subst (HasType rs typed v) type k)
      by_place q u w e r false s = h.types q u w e (sym (write_other m p q (Some v) s) ∙ r)

  pub clear_holds : (m : Memory) (n : ℕ) → HoldsTypes rs typed c m → HoldsTypes rs typed c (write m (Local n) None)
  clear_holds m n h =
      let z = written_sizes m (Local n) None in record {
        slots = z.0 ∙ h.slots;
        locals = z.1 ∙ h.locals;
        types = λ q u w e r. by_place q u w e r (same_place q (Local n)) refl;
      }
    where
      by_place : (q : Slotted) (u : TypeTree) (w : ValueTree) → type_at c q ≡ Some u → read (write m (Local n) None) q ≡ Some w → (b : Bool) → same_place q (Local n) ≡ b → HasType rs typed w u
      by_place q u w e r true s =
          let f : q ≡ Local n = place_eq q (Local n) s in
          none_some w (sym (set_none m.locals n) ∙ subst (λ z. read (write m (Local n) None) z ≡ Some w) f r)
      by_place q u w e r false s = h.types q u w e (sym (write_other m (Local n) q None s) ∙ r)

  pub emptied_holds : (ns : List ℕ) (m : Memory) → HoldsTypes rs typed c m → HoldsTypes rs typed c (emptied ns m)
  emptied_holds [] m h = h
  emptied_holds (n ∷ ns) m h = emptied_holds ns (write m (Local n) None) (clear_holds m n h)

  pub lost_holds : (m : Memory) → HoldsTypes rs typed c m → HoldsTypes rs typed c (all_emptied m)
  lost_holds m h = record { slots = h.slots; locals = blanks_length m.locals ∙ h.locals; types = by_kind }
    where
      by_kind : (q : Slotted) (u : TypeTree) (w : ValueTree) → type_at c q ≡ Some u → read (all_emptied m) q ≡ Some w → HasType rs typed w u
      by_kind (Slot n) u w e r = h.types (Slot n) u w e r
      by_kind (Local n) u w e r = none_some w (sym (blank_at m.locals n) ∙ r)

-- locals that are dropped are empty, and the others as they were
pub emptied_other : (ns : List ℕ) (m : Memory) (q : Slotted) → dropped ns q ≡ false → read (emptied ns m) q ≡ read m q
emptied_other [] m q h = refl
emptied_other (n ∷ ns) m (Slot k) h = emptied_other ns (write m (Local n) None) (Slot k) refl
emptied_other (n ∷ ns) m (Local k) h =
    let e = neither (nat_eq k n) (list_any (nat_eq k) ns) h in
    emptied_other ns (write m (Local n) None) (Local k) e.1 ∙ write_other m (Local n) (Local k) None e.0
  where
    neither : (a b : Bool) → a || b ≡ false → (a ≡ false) × (b ≡ false)
    neither true b h = absurd (no_false h)
      where
        no_false : true ≡ false → ⊥
        no_false h = cc
    neither false b h = (refl, h)
