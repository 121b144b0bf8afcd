use Rattle.std.proofs.Common.{◌≡◌, ◌≤◌, ℕ, drop, nat_eq, true, length}
use Rattle.std.specs.List.{list_any}
use Rattle.flow_valid.specs.Validity.{distinct}
use Rattle.flow_validate.proofs.blocks.put_distinct.Given as goal

abbrev pub invariant-loop-at : goal.invariant-loop-at
invariant-loop-at l =
    (l.at ≤ length l.numbers) × (distinct (drop l.at l.numbers) ≡ true) × ((x : ℕ) → list_any (nat_eq x) l.behind.keys ≡ list_any (nat_eq x) (drop l.at l.numbers))

abbrev pub decreases-loop-at : goal.decreases-loop-at
decreases-loop-at l = l.at
