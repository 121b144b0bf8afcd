use Rattle.std.proofs.Common.{◌-◌, ◌≡◌, ℕ, ◌<◌, ◌≤◌, length, Some}
use Rattle.flow_numbered.specs.Rows.{place_in}
use Rattle.flow_numbered.proofs.rows.search.Given as goal

-- the number stands between the two bounds, if it stands anywhere
abbrev pub invariant-loop-low : goal.invariant-loop-low
invariant-loop-low g l =
    (l.high ≤ length l.rows) × ((i : ℕ) → place_in l.rows l.number ≡ Some i → (l.low ≤ i) × (i < l.high))

abbrev pub decreases-loop-low : goal.decreases-loop-low
decreases-loop-low g l = l.high - l.low
