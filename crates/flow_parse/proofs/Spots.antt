-- The first tokens, and their spots.
use Rattle.std.proofs.Common.{◌≡◌, ℕ, zero, suc, List, [], ◌∷◌, take, refl, ap}
use Rattle.flow_tree.specs.GrammarToken.{Marked, spots_of}

pub spots_take : (k : ℕ) (xs : List Marked) → spots_of (take k xs) ≡ take k (spots_of xs)
spots_take zero xs = refl
spots_take (suc k) [] = refl
spots_take (suc k) (x ∷ xs) = ap (λ y. x.spot ∷ y) (spots_take k xs)
