-- Names of places, and their numbers.
use Rattle.std.proofs.Common.{◌≡◌, ℕ, ◌^◌, ◌<◌, Bool, true, false, not, ◌&&◌, ◌==◌, List, [], ◌∷◌, decimal, if◌then◌else◌, refl, sym, ap, ◌∙◌, subst, arith, rules}
use Rattle.std.specs.Prelude.{pos, ℤ}
use Rattle.std.specs.List.{list_all}
use Rattle.std.specs.Option.{option_map}
use Rattle.std.proofs.lemmas.Fmt.{decimal-digits_value}
use Rattle.std.proofs.lemmas.Str.Parse.{IsNumeralModel, numerals_by_fold}
use Rattle.std.specs.declared.option.Option.{Option}
use Rattle.std.specs.declared.option.Option.TheVariants.{None, Some}
use Rattle.flow_base.specs.Names.{digit, are_digits, digits_from}
use Rattle.flow_tree.specs.declared.token.Token.{Token}
use Rattle.flow_tree.specs.declared.token.Token.TheVariants as token
use Rattle.flow_class.specs.declared.class.Slotted.{Slotted}
use Rattle.flow_class.specs.declared.class.Slotted.TheVariants.{Slot, Local}
use Rattle.flow_class.specs.Places.{place_name, place_named, is_number, number_of, small, small_place}
use Rattle.flow_classprint.specs.ClassGrammar.{IsNumber, IsPlace}
use Rattle.flow_classread.specs.Tokens.{number_in, small_int, place_in}

own : IsNumeralModel (λ ds. list_all digit ds ≡ true) (digits_from 0)
own = numerals_by_fold _ (search rules) digits_from (search rules)

-- a number is spelled in one way
spelled : (ds : List ℕ) → is_number ds ≡ true → digits_from 0 ds < 2 ^ 64 → decimal (digits_from 0 ds) ≡ ds
spelled [] h lt = absurd (cc)
spelled (d ∷ []) h lt = decimal-digits_value own (d ∷ []) (all d h) (omega arith) (λ e. refl) lt
  where
    all : (d : ℕ) → are_digits (d ∷ []) ≡ true → list_all digit (d ∷ []) ≡ true
    all d h = grind rules
spelled (d ∷ e ∷ ds) h lt = decimal-digits_value own (d ∷ e ∷ ds) (all d e ds h) (omega arith) (λ z. absurd (some d e ds h z)) lt
  where
    all : (d e : ℕ) (ds : List ℕ) → not (d == 48) && are_digits (d ∷ e ∷ ds) ≡ true → list_all digit (d ∷ e ∷ ds) ≡ true
    all d e ds h = grind rules

    some : (d e : ℕ) (ds : List ℕ) → not (d == 48) && are_digits (d ∷ e ∷ ds) ≡ true → d ≡ 48 → ⊥
    some d e ds h z = grind rules

of_number : (ds : List ℕ) (b : Bool) (n : ℕ) → is_number ds ≡ b → (if b then Some (digits_from 0 ds) else None) ≡ Some n → n < 2 ^ 64 → ds ≡ decimal n
of_number ds true n e h lt = let f : digits_from 0 ds ≡ n = cc in sym (spelled ds e (subst (λ k. k < 2 ^ 64) (sym f) lt)) ∙ ap decimal f
of_number ds false n e h lt = absurd (cc)

number_text : (ds : List ℕ) (n : ℕ) → number_of ds ≡ Some n → n < 2 ^ 64 → ds ≡ decimal n
number_text ds n h lt = of_number ds (is_number ds) n refl h lt

small_is : (o : Option ℕ) (n : ℕ) → small o ≡ Some n → (o ≡ Some n) × (n < 2 ^ 32)
small_is None n h = absurd (cc)
small_is (Some m) n h = grind arith

pub small_back : (n : ℕ) → n < 2 ^ 32 → small (Some n) ≡ Some n
small_back n h = grind arith

-- a token that is a number below 2^32
int_is : (z : ℤ) (n : ℕ) → small_int z ≡ Some n → (n < 2 ^ 32) × (token.Number z ≡ token.Number (pos n))
int_is (pos m) n h = let r = small_is (Some m) n h in (r.1, let e : m ≡ n = cc in ap (λ k. token.Number (pos k)) e)
int_is z n h = absurd (cc)

pub number_is : (o : Option Token) (n : ℕ) → number_in o ≡ Some n → IsNumber n × (o ≡ Some (token.Number (pos n)))
number_is None n h = absurd (cc)
number_is (Some (token.Number z)) n h = let r = int_is z n h in (r.0, ap Some r.1)
number_is (Some (token.Name z)) n h = absurd (cc)
number_is (Some (token.Text z)) n h = absurd (cc)
number_is (Some (token.Word z)) n h = absurd (cc)
number_is (Some (token.Sign z)) n h = absurd (cc)

-- a place with a number below 2^32
slot_is : (o : Option ℕ) (p : Slotted) → small_place (option_map Slot o) ≡ Some p → (n : ℕ) × (p ≡ Slot n) × (o ≡ Some n) × (n < 2 ^ 32)
slot_is None p h = absurd (cc)
slot_is (Some m) p h = from m (small (Some m)) p refl h
  where
    from : (m : ℕ) (o : Option ℕ) (p : Slotted) → small (Some m) ≡ o → option_map Slot o ≡ Some p → (n : ℕ) × (p ≡ Slot n) × (Some m ≡ Some n) × (n < 2 ^ 32)
    from m None p e h = absurd (cc)
    from m (Some n) p e h = let r = small_is (Some m) n e in (n, cc, r.0, r.1)

local_is : (o : Option ℕ) (p : Slotted) → small_place (option_map Local o) ≡ Some p → (n : ℕ) × (p ≡ Local n) × (o ≡ Some n) × (n < 2 ^ 32)
local_is None p h = absurd (cc)
local_is (Some m) p h = from m (small (Some m)) p refl h
  where
    from : (m : ℕ) (o : Option ℕ) (p : Slotted) → small (Some m) ≡ o → option_map Local o ≡ Some p → (n : ℕ) × (p ≡ Local n) × (Some m ≡ Some n) × (n < 2 ^ 32)
    from m None p e h = absurd (cc)
    from m (Some n) p e h = let r = small_is (Some m) n e in (n, cc, r.0, r.1)

first_is : (c : ℕ) (ds : List ℕ) (a b : Bool) (p : Slotted) → (c == 115) ≡ a → (c == 108) ≡ b
    → small_place (if a then option_map Slot (number_of ds) else if b then option_map Local (number_of ds) else None) ≡ Some p → IsPlace p × (c ∷ ds ≡ place_name p)
first_is c ds true b p e f h =
    let r = slot_is (number_of ds) p h in
    let g : c ≡ 115 = grind arith in
    let k : c ∷ ds ≡ 115 ∷ decimal r.0 = ap (λ n. n ∷ ds) g ∙ ap (λ z. 115 ∷ z) (number_text ds r.0 r.2 (omega (arith, r.3))) in
    (subst IsPlace (sym r.1) r.3, k ∙ ap place_name (sym r.1))
first_is c ds false true p e f h =
    let r = local_is (number_of ds) p h in
    let g : c ≡ 108 = grind arith in
    let k : c ∷ ds ≡ 108 ∷ decimal r.0 = ap (λ n. n ∷ ds) g ∙ ap (λ z. 108 ∷ z) (number_text ds r.0 r.2 (omega (arith, r.3))) in
    (subst IsPlace (sym r.1) r.3, k ∙ ap place_name (sym r.1))
first_is c ds false false p e f h = absurd (cc)

pub name_is : (x : List ℕ) (p : Slotted) → small_place (place_named x) ≡ Some p → IsPlace p × (x ≡ place_name p)
name_is [] p h = absurd (cc)
name_is (c ∷ ds) p h = first_is c ds (c == 115) (c == 108) p refl refl h

pub place_is : (o : Option Token) (p : Slotted) → place_in o ≡ Some p → IsPlace p × (o ≡ Some (token.Name (place_name p)))
place_is None p h = absurd (cc)
place_is (Some (token.Name x)) p h = let r = name_is x p h in (r.0, ap (λ z. Some (token.Name z)) r.1)
place_is (Some (token.Number x)) p h = absurd (cc)
place_is (Some (token.Text x)) p h = absurd (cc)
place_is (Some (token.Word x)) p h = absurd (cc)
place_is (Some (token.Sign x)) p h = absurd (cc)
