-- The touches of blocks, one block after another.
use Rattle.std.specs.Prelude.{◌≡◌, ℕ, ◌+◌, List, [], ◌∷◌, ◌++◌, length}
use Rattle.flow_validate.specs.declared.touch.Touch.{Touch}
use Rattle.flow_validate.specs.declared.touch.Touches.{Touches}

abbrev pub joined : List (List Touch) → List Touch
joined [] = []
joined (ts ∷ rest) = ts ++ joined rest

-- where each of them ends, the first of which begins here
abbrev pub ends_from : ℕ → List (List Touch) → List ℕ
ends_from n [] = []
ends_from n (ts ∷ rest) = (n + length ts) ∷ ends_from (n + length ts) rest

abbrev pub AreJoined : Touches → List (List Touch) → Type 0
AreJoined t all = (t.all.items ≡ joined all) × (t.ends.items ≡ ends_from 0 all)
