-- Divisors and multiples.
use Rattle.std.proofs.Common.{ℕ, zero, suc, ◌*◌, ◌/◌, ◌<◌, ◌≤◌, arith, mul-le-mul_right}
use Rattle.std.specs.Int.{IsGcd}
use Rattle.std.proofs.lemmas.Nat.Gcd.{mod-eq-zero_of_dvd}
use native.Mathlib.Nat.{div-le_self, mod-zero}

-- a divisor of a number that isn't 0 is none either
pub divisor_some : (a b d : ℕ) → 0 < a → IsGcd a b d → 0 < d
divisor_some a b zero some is = absurd (omega (arith, some, mod-eq-zero_of_dvd zero is.0, mod-zero a))
divisor_some a b (suc d) some is = omega arith

-- one without the divisor, times the other, is at most the product
pub product_most : (a b d : ℕ) → a / d * b ≤ a * b
product_most a b d = mul-le-mul_right b (div-le_self a d)
