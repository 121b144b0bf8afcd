-- Digits and their numbers.
use Rattle.std.proofs.Common.{◌≡◌, ℕ, ◌+◌, ◌-◌, ◌*◌, ◌^◌, ◌<◌, ◌≤◌, true, List, length, take, get_or, refl, arith, rules}
use Rattle.std.specs.Bool.{IsTrue}
use Rattle.std.specs.List.{list_all}
use Rattle.std.specs.Char.{is_ascii_digit, digit_value}
use Rattle.std.specs.Int.{IsInRange}
use Rattle.std.specs.Str.Parse.{digits_value}
use Rattle.std.proofs.lemmas.Str.Parse.{IsDigitsTest, IsNumeralModel, numerals_by_value, digits_value-take-le, digits_value_short, digit_at}
use Rattle.std.proofs.lemmas.Int.Digits.{digits_value_more}
use Rattle.flow_worldfile.specs.Lines.{is_number}

-- that all bytes are digits, tested byte by byte
tests_digits : IsDigitsTest (λ ds. list_all is_ascii_digit ds ≡ true)
tests_digits = search rules

pub digits : IsNumeralModel (λ ds. list_all is_ascii_digit ds ≡ true) (digits_value 10)
digits = numerals_by_value _ tests_digits

value_of_digit : (c : ℕ) → IsInRange 48 57 c → digit_value c ≡ c - 48
value_of_digit c h = grind (arith, h)

-- one digit more: what was read, the digit's place among bytes, and what is read then
pub record NextDigit (piece : List ℕ) (i : ℕ) : Type 0 where
  pub below : digits_value 10 (take i piece) < 10 ^ 20
  pub low : 48 ≤ get_or piece i 0
  pub high : get_or piece i 0 ≤ 57
  pub more : digits_value 10 (take (i + 1) piece) ≡ digits_value 10 (take i piece) * 10 + (get_or piece i 0 - 48)

pub next_digit : (piece : List ℕ) (i : ℕ) → IsTrue (is_number piece) → i < length piece → NextDigit piece i
next_digit piece i h lt =
    let short : length piece ≤ 20 = grind (arith, h) in
    let all : list_all is_ascii_digit piece ≡ true = grind (arith, h) in
    let range : IsInRange 48 57 (get_or piece i 0) = digit_at piece i (digits.to piece all) lt in
    let whole : digits_value 10 piece < 10 ^ 20 = digits_value_short digits piece 20 all short in
    let part : digits_value 10 (take i piece) ≤ digits_value 10 piece = digits_value-take-le 10 piece i (omega arith) in
    record {
      below = omega arith;
      low = omega (arith, range);
      high = omega (arith, range);
      more = rw (digits_value_more 10 piece i lt, value_of_digit (get_or piece i 0) range) refl;
    }
