-- The name of a place names that place: the digits of its number are read back.
use Rattle.std.proofs.Common.{◌≡◌, ◌⊎◌, inl, inr, ℕ, zero, suc, ◌^◌, ◌<◌, Bool, true, false, not, ◌&&◌, ◌==◌, List, [], ◌∷◌, length, get_or, decimal, if◌then◌else◌, refl, ap, ◌∙◌, arith, rules}
use Rattle.std.specs.List.{list_all}
use Rattle.std.specs.Option.{option_map}
use Rattle.std.proofs.lemmas.Fmt.{decimal_digit, decimal_nonempty, first_decimal, digits_decimal, digits_value-decimal}
use Rattle.std.proofs.lemmas.Str.Parse.{IsNumeralModel, numerals_by_fold}
use Rattle.std.specs.declared.option.Option.TheVariants.{None, Some}
use Rattle.flow_base.specs.Names.{digit, are_digits, digits_from}
use Rattle.flow_class.specs.declared.class.Slotted.{Slotted}
use Rattle.flow_class.specs.declared.class.Slotted.TheVariants.{Slot, Local}
use Rattle.flow_class.specs.Places.{place_name, place_named, is_number, number_of}

own : IsNumeralModel (λ ds. list_all digit ds ≡ true) (digits_from 0)
own = numerals_by_fold _ (search rules) digits_from (search rules)

one_or_more : (ds : List ℕ) → list_all digit ds ≡ true → 0 < length ds → (length ds ≡ 1) ⊎ (48 < get_or ds 0 0) → is_number ds ≡ true
one_or_more [] all lt h = absurd (omega arith)
one_or_more (d ∷ []) all lt h = all
one_or_more (d ∷ e ∷ ds) all lt (inl h) = absurd (omega (arith, h))
one_or_more (d ∷ e ∷ ds) all lt (inr h) =
    ap (λ b. not b && are_digits (d ∷ e ∷ ds)) (unlike d h) ∙ ap (λ b. not b && list_all digit (d ∷ e ∷ ds)) (some (suc (length ds))) ∙ all
  where
    some : (n : ℕ) → (suc n == 0) ≡ false
    some n = grind arith

    unlike : (d : ℕ) → 48 < d → (d == 48) ≡ false
    unlike d h = grind arith

is_decimal : (n : ℕ) → n < 2 ^ 64 → is_number (decimal n) ≡ true
is_decimal zero lt = one_or_more (decimal 0) (digits_decimal own 0 lt) (decimal_nonempty 0 lt) (inl (ap length (decimal_digit 0 (omega arith))))
is_decimal (suc n) lt = one_or_more (decimal (suc n)) (digits_decimal own (suc n) lt) (decimal_nonempty (suc n) lt) (inr (first_decimal (suc n) (omega arith) lt))

pub number_back : (n : ℕ) → n < 2 ^ 64 → number_of (decimal n) ≡ Some n
number_back n lt = ap (λ b. if b then Some (digits_from 0 (decimal n)) else None) (is_decimal n lt) ∙ ap Some (digits_value-decimal own n lt)

-- a place with a number that can be written
abbrev pub IsSmall : Slotted → Type 0
IsSmall (Slot n) = n < 2 ^ 64
IsSmall (Local n) = n < 2 ^ 64

pub place_back : (p : Slotted) → IsSmall p → place_named (place_name p) ≡ Some p
place_back (Slot n) h = ap (option_map Slot) (number_back n h)
place_back (Local n) h = ap (option_map Local) (number_back n h)
