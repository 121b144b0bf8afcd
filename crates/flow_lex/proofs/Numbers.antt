-- The longest spelling of a number.
use Rattle.std.proofs.Common.{◌≡◌, ℕ, zero, suc, ◌+◌, ◌-◌, ◌≤◌, ◌<◌, List, [], ◌∷◌, length, take, get_or, refl, sym, ap, ◌∙◌, subst, arith, Bool, true, false, cond, min}
use Rattle.std.specs.Prelude.{◌&&◌, ◌*◌, eqb, nat_lt}
use Rattle.std.specs.List.{list_all, prefix_len}
use Rattle.std.specs.Str.Parse.{digits_value}
use Rattle.std.specs.Char.{digit_value}
use Rattle.std.proofs.lemmas.Bool.Decides.{nat_tests}
use Rattle.std.proofs.lemmas.List.{length-take}
use Rattle.std.proofs.lemmas.List.Sums.{prefix_len-le-length}
use Rattle.std.proofs.lemmas.Int.Digits.{digits_value_more}
use Rattle.std.proofs.lemmas.Str.Parse.{digits_value-take-le}
use Rattle.flow_base.proofs.Bools.{and_left, and_right}
use Rattle.flow_base.specs.Names.{digit}
use Rattle.flow_tree.specs.declared.token.Token.TheVariants as token
use Rattle.flow_tree.specs.declared.token.Token.TheVariants.{Name, Number, Text}
use Rattle.flow_tree.specs.Spelling.{is_number_text, IsLongest}
use Rattle.flow_lex.specs.Next.{FoundNumber}
use Rattle.flow_lex.proofs.Bytes.{both, true_false, prefix_all, prefix_passes, letter_no_digit, digit_no_sign, quote_no_digit, number_first, begins}

pub digit_value_of : (b : ℕ) → digit b ≡ true → digit_value b ≡ b - 48
digit_value_of b h = grind (arith, nat_tests)

min_left : (a b : ℕ) → a ≤ b → min a b ≡ a
min_left a b h = omega arith

length_front : (w : List ℕ) (k : ℕ) → k ≤ length w → length (take k w) ≡ k
length_front w k le = length-take k w ∙ min_left k (length w) le

-- what follows a first digit in a number
number_rest : (b : ℕ) (w : List ℕ) → is_number_text (b ∷ w) ≡ true → (b ≡ 48 → length w ≡ 0) × ((b ≡ 48 → ⊥) → list_all digit w ≡ true)
number_rest b w h = elim (eqb b 48) as (λ x. (eqb b 48 ≡ x) → cond x (nat_lt (length w) 1) (digit b && list_all digit w) ≡ true → (b ≡ 48 → length w ≡ 0) × ((b ≡ 48 → ⊥) → list_all digit w ≡ true)) [
  | true ↦ λ e f. ((λ z. grind (arith, nat_tests)), (λ ne. absurd (ne (grind (arith, nat_tests)))))
  | false ↦ λ e f. ((λ z. absurd (let g : eqb b 48 ≡ true = grind (arith, nat_tests) in true_false (sym g ∙ e))), (λ ne. and_right (digit b) (list_all digit w) f))
] refl h

pub zero_longest : (b : ℕ) (w : List ℕ) → b ≡ 48 → IsLongest 1 (b ∷ w)
zero_longest b w e zero t lt le s = omega arith
zero_longest b w e (suc k) (Name n) lt le s = letter_no_digit b (begins (Name n) b (take k w) s) (ap digit e)
zero_longest b w e (suc k) (token.Word n) lt le s = letter_no_digit b (begins (token.Word n) b (take k w) s) (ap digit e)
zero_longest b w e (suc k) (Number z) lt le s =
    absurd (omega (arith, (number_rest b (take k w) s.0).0 e, length_front w k (omega arith)))
zero_longest b w e (suc k) (Text t) lt le s = quote_no_digit b (begins (Text t) b (take k w) s) (ap digit e)
zero_longest b w e (suc k) (token.Sign g) lt le s = digit_no_sign b (ap digit e) (begins (token.Sign g) b (take k w) s)

pub number_longest : (b : ℕ) (w : List ℕ) → digit b ≡ true → (b ≡ 48 → ⊥) → IsLongest (suc (prefix_len digit w)) (b ∷ w)
number_longest b w d ne zero t lt le s = omega arith
number_longest b w d ne (suc k) (Name n) lt le s = letter_no_digit b (begins (Name n) b (take k w) s) d
number_longest b w d ne (suc k) (token.Word n) lt le s = letter_no_digit b (begins (token.Word n) b (take k w) s) d
number_longest b w d ne (suc k) (Number z) lt le s =
    absurd (omega (arith, prefix_all digit w k (omega arith) ((number_rest b (take k w) s.0).1 ne)))
number_longest b w d ne (suc k) (Text t) lt le s = quote_no_digit b (begins (Text t) b (take k w) s) d
number_longest b w d ne (suc k) (token.Sign g) lt le s = digit_no_sign b d (begins (token.Sign g) b (take k w) s)

pub finds_zero : (text : List ℕ) → 0 < length text → get_or text 0 0 ≡ 48 → FoundNumber text 1
finds_zero [] h e = absurd (omega arith)
finds_zero (b ∷ w) h e = record {
  some = omega arith;
  within = omega arith;
  spelled = (ap (λ x. is_number_text (x ∷ [])) e, refl);
  longest = zero_longest b w e;
}

number_form : (b : ℕ) (w : List ℕ) → digit b ≡ true → (b ≡ 48 → ⊥) → list_all digit w ≡ true → is_number_text (b ∷ w) ≡ true
number_form b w d ne h = elim (eqb b 48) as (λ x. (eqb b 48 ≡ x) → cond x (nat_lt (length w) 1) (digit b && list_all digit w) ≡ true) [
  | true ↦ λ e. absurd (ne (grind (arith, nat_tests)))
  | false ↦ λ e. both (digit b) (list_all digit w) d h
] refl

pub finds_number : (text : List ℕ) → 0 < length text → digit (get_or text 0 0) ≡ true → (get_or text 0 0 ≡ 48 → ⊥) → FoundNumber text (prefix_len digit text)
finds_number [] h d ne = absurd (omega arith)
finds_number (b ∷ w) h d ne =
    let n = prefix_len digit w in
    let e : prefix_len digit (b ∷ w) ≡ suc n = ap (λ x. cond x (1 + n) 0) d ∙ omega arith in
    subst (λ m. FoundNumber (b ∷ w) m) (sym e) (record {
      some = omega arith;
      within = omega (arith, prefix_len-le-length digit w);
      spelled = (number_form b (take n w) d ne (prefix_passes digit w), refl);
      longest = number_longest b w d ne;
    })

-- the digits of a number that is found
all_digits : (w : List ℕ) → is_number_text w ≡ true → list_all digit w ≡ true
all_digits [] h = refl
all_digits (b ∷ w) h =
    both (digit b) (list_all digit w) (number_first b w h)
    (elim (eqb b 48) as (λ x. (eqb b 48 ≡ x) → list_all digit w ≡ true) [
      | true ↦ λ e. none_left w ((number_rest b w h).0 (grind (arith, nat_tests)))
      | false ↦ λ e. (number_rest b w h).1 (λ z. let g : eqb b 48 ≡ true = grind (arith, nat_tests) in true_false (sym g ∙ e))
    ] refl)
  where
    none_left : (v : List ℕ) → length v ≡ 0 → list_all digit v ≡ true
    none_left [] z = refl
    none_left (c ∷ v) z = absurd (omega arith)

pub found_digits : (text : List ℕ) (n : ℕ) → FoundNumber text n → list_all digit (take n text) ≡ true
found_digits text n f = all_digits (take n text) f.spelled.0

-- each of the digits is one
pub all_at : (p : ℕ → Bool) (xs : List ℕ) (i : ℕ) → list_all p xs ≡ true → i < length xs → p (get_or xs i 0) ≡ true
all_at p [] i h lt = absurd (omega arith)
all_at p (x ∷ xs) zero h lt = and_left (p x) (list_all p xs) h
all_at p (x ∷ xs) (suc i) h lt = all_at p xs i (and_right (p x) (list_all p xs) h) (omega arith)

-- a value that passes a bound at some digit passes it at the last
pub value_passes : (ds : List ℕ) (i bound value : ℕ) → i < length ds → value ≡ digits_value 10 (take i ds) → bound ≤ value * 10 + digit_value (get_or ds i 0) → bound ≤ digits_value 10 ds
value_passes ds i bound value lt e le = omega (arith, digits_value_more 10 ds i lt, digits_value-take-le 10 ds (i + 1) (omega arith))

pub value_more : (ds : List ℕ) (i value next : ℕ) → i < length ds → value ≡ digits_value 10 (take i ds) → next ≡ value * 10 + digit_value (get_or ds i 0) → next ≡ digits_value 10 (take (i + 1) ds)
value_more ds i value next lt e f = omega (arith, digits_value_more 10 ds i lt)
