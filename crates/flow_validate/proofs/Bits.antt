-- Bits of words, as truth values.
use Rattle.std.proofs.Common.{◌≡◌, ℕ, zero, suc, ◌+◌, ◌-◌, ◌*◌, ◌^◌, ◌%◌, ◌<◌, nat_eq, nat_le, Bool, true, false, not, ◌&&◌, ◌||◌, max, min, bit_and, bit_or, refl, sym, ap, ◌∙◌, arith}
use Rattle.std.specs.Int.{bit_at, w64}
use Rattle.std.proofs.lemmas.Nat.Bits.{bit_at-zero, bit_at_ones, bit_at_ones_above, bit_at-pow_same, bit_at-pow_other, bit_at_and, bit_at_or, bit_at_not, bit_at-lt}
use Rattle.std.proofs.lemmas.Nat.{one_shl}
use Rattle.std.proofs.lemmas.Bool.{eq-eqb, eqb-true}
use Rattle.flow_validate.specs.Following.{has_bit}

pub has_zero : (j : ℕ) → has_bit 0 j ≡ false
has_zero j = ap (λ x. nat_eq x 1) (bit_at-zero j)

pub has_max : (j : ℕ) → j < 64 → has_bit 18446744073709551615 j ≡ true
has_max j lt = ap (λ x. nat_eq x 1) (bit_at_ones 64 j lt)

pub has_pow : (k j : ℕ) → has_bit (2 ^ k) j ≡ nat_eq k j
has_pow k j = by (nat_eq k j) refl
  where
    by : (b : Bool) → nat_eq k j ≡ b → has_bit (2 ^ k) j ≡ b
    by true e = let same : k ≡ j = eqb-true k j e in ap (λ i. nat_eq (bit_at (2 ^ k) i) 1) (sym same) ∙ ap (λ x. nat_eq x 1) (bit_at-pow_same k)
    by false e = ap (λ x. nat_eq x 1) (bit_at-pow_other k j (λ (h : j ≡ k). let there : nat_eq k j ≡ true = eq-eqb k j (sym h) in cc))

pub has_shifted : (k j : ℕ) → k < 64 → has_bit (1 * 2 ^ k % 18446744073709551616) j ≡ nat_eq k j
has_shifted k j lt = ap (λ m. has_bit m j) (one_shl k 64 lt) ∙ has_pow k j

pub eq_shifted : (f b j : ℕ) → nat_eq (f + b) (f + j) ≡ nat_eq b j
eq_shifted f b j = by (nat_eq b j) refl
  where
    by : (o : Bool) → nat_eq b j ≡ o → nat_eq (f + b) (f + j) ≡ o
    by true e = let same : b ≡ j = eqb-true b j e in eq-eqb (f + b) (f + j) (ap (λ k. f + k) same)
    by false e = grind (arith, e)

pub le_shifted : (f b j : ℕ) → nat_le (f + b) (f + j) ≡ nat_le b j
le_shifted f b j = by (nat_le b j) refl
  where
    by : (o : Bool) → nat_le b j ≡ o → nat_le (f + b) (f + j) ≡ o
    by true e = grind (arith, e)
    by false e = grind (arith, e)

either : (x y : ℕ) → x < 2 → y < 2 → nat_eq (max x y) 1 ≡ (nat_eq x 1 || nat_eq y 1)
either zero zero a b = refl
either zero (suc zero) a b = refl
either zero (suc (suc y)) a b = absurd (omega arith)
either (suc zero) zero a b = refl
either (suc zero) (suc zero) a b = refl
either (suc zero) (suc (suc y)) a b = absurd (omega arith)
either (suc (suc x)) y a b = absurd (omega arith)

both : (x y : ℕ) → x < 2 → y < 2 → nat_eq (min x y) 1 ≡ (nat_eq x 1 && nat_eq y 1)
both zero zero a b = refl
both zero (suc zero) a b = refl
both zero (suc (suc y)) a b = absurd (omega arith)
both (suc zero) zero a b = refl
both (suc zero) (suc zero) a b = refl
both (suc zero) (suc (suc y)) a b = absurd (omega arith)
both (suc (suc x)) y a b = absurd (omega arith)

turned : (x : ℕ) → x < 2 → nat_eq (1 - x) 1 ≡ not (nat_eq x 1)
turned zero a = refl
turned (suc zero) a = refl
turned (suc (suc x)) a = absurd (omega arith)

pub has_or : (a b j : ℕ) → has_bit (bit_or a b) j ≡ (has_bit a j || has_bit b j)
has_or a b j = ap (λ x. nat_eq x 1) (bit_at_or a b j) ∙ either (bit_at a j) (bit_at b j) (bit_at-lt a j) (bit_at-lt b j)

pub has_and : (a b j : ℕ) → has_bit (bit_and a b) j ≡ (has_bit a j && has_bit b j)
has_and a b j = ap (λ x. nat_eq x 1) (bit_at_and a b j) ∙ both (bit_at a j) (bit_at b j) (bit_at-lt a j) (bit_at-lt b j)

pub has_not : (a j : ℕ) → a < 2 ^ 64 → j < 64 → has_bit (18446744073709551615 - a) j ≡ not (has_bit a j)
has_not a j small lt = ap (λ x. nat_eq x 1) (bit_at_not w64 a j small lt) ∙ turned (bit_at a j) (bit_at-lt a j)

-- the bits below a number, and those from it on
pub has_ones : (k j : ℕ) → has_bit (2 ^ k - 1) j ≡ not (nat_le k j)
has_ones k j = by (nat_le k j) refl
  where
    by : (b : Bool) → nat_le k j ≡ b → has_bit (2 ^ k - 1) j ≡ not b
    by true e = ap (λ x. nat_eq x 1) (bit_at_ones_above k j (grind (arith, e)))
    by false e = ap (λ x. nat_eq x 1) (bit_at_ones k j (grind (arith, e)))

pub twice_not : (b : Bool) → not (not b) ≡ b
twice_not true = refl
twice_not false = refl

pub eq_turned : (a b : ℕ) → nat_eq a b ≡ nat_eq b a
eq_turned a b = by (nat_eq b a) refl
  where
    by : (o : Bool) → nat_eq b a ≡ o → nat_eq a b ≡ o
    by true e = let same : b ≡ a = eqb-true b a e in eq-eqb a b (sym same)
    by false e = grind (arith, e)
