-- How many words aren't the common one, word by word.
use Rattle.std.proofs.Common.{◌≡◌, ℕ, zero, suc, ◌+◌, ◌<◌, ◌≤◌, Bool, true, false, nat_eq, if◌then◌else◌, List, [], ◌∷◌, length, take, get_or, sym, ap, ap₂, ◌∙◌, add-one, arith}
use Rattle.flow_simplify.specs.Simpler.{weight, uncommon}

one_at_most : (b : Bool) → (if b then 0 else 1) ≤ 1
one_at_most true = omega arith
one_at_most false = omega arith

pub weight_most : (c w : ℕ) → weight c w ≤ 1
weight_most c w = one_at_most (nat_eq w c)

uncommon_next : (c : ℕ) (xs : List ℕ) (i : ℕ) → i < length xs → uncommon c (take (suc i) xs) ≡ uncommon c (take i xs) + weight c (get_or xs i 0)
uncommon_next c [] i lt = absurd (omega (arith, lt))
uncommon_next c (x ∷ xs) zero lt = omega arith
uncommon_next c (x ∷ xs) (suc i) lt = let next = uncommon_next c xs i (omega (arith, lt)) in omega (arith, next)

-- one word more
pub counted_next : (c : ℕ) (xs : List ℕ) (i count more : ℕ) → i < length xs → count ≡ uncommon c (take i xs) → more ≡ weight c (get_or xs i 0)
    → count + more ≡ uncommon c (take (i + 1) xs)
counted_next c xs i count more lt so is =
    ap₂ (λ a b. a + b) so is ∙ sym (uncommon_next c xs i lt) ∙ ap (λ n. uncommon c (take n xs)) (sym (add-one i))
