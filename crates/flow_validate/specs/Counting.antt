-- How often groups are chosen, counted one block after another. Counts stop at the greatest number of 32 bits.
use Rattle.std.specs.Prelude.{ℕ, zero, suc, ◌^◌, ◌-◌, ◌+◌, min, List, [], ◌∷◌, slice_set, get_or}
use Rattle.flow_class.specs.Classes.{LastTree, ChooseLast, BlockTree}

abbrev pub one_more : ℕ → ℕ
one_more n = min (n + 1) (2 ^ 32 - 1)

-- a group is chosen once more, by its number from 1
abbrev pub counted_once : List ℕ → ℕ → List ℕ
counted_once ns zero = ns
counted_once ns (suc k) = slice_set ns k (one_more (get_or ns k 0))

abbrev pub counted_by : LastTree → List ℕ → List ℕ
counted_by (ChooseLast g) ns = counted_once ns g
counted_by _ ns = ns

abbrev pub counted : List BlockTree → List ℕ → List ℕ
counted [] ns = ns
counted (b ∷ bs) ns = counted bs (counted_by b.last ns)

abbrev pub zeros : {A : Type 0} → List A → List ℕ
zeros [] = []
zeros (x ∷ xs) = 0 ∷ zeros xs
