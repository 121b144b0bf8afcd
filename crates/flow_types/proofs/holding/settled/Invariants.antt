use Rattle.std.proofs.Common.{◌≡◌, ◌-◌, length}
use Rattle.flow_types.specs.Holding.{Sound, trues}
use Rattle.flow_types.proofs.holding.settled.Given as goal

abbrev pub invariant-sweeps : goal.invariant-sweeps
invariant-sweeps l = (length l.marks.items ≡ length l.uses) × Sound l.uses l.marks.items

abbrev pub decreases-sweeps : goal.decreases-sweeps
decreases-sweeps l = length l.uses - trues l.marks.items
