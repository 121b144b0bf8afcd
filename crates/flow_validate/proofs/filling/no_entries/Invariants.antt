use Rattle.std.proofs.Common.{◌≡◌, ◌++◌, drop}
use Rattle.flow_validate.specs.WalkStates.{nothing_entered}
use Rattle.flow_validate.proofs.filling.no_entries.Given as goal

abbrev pub invariant-loop : goal.invariant-loop
invariant-loop l = l.entries.items ++ nothing_entered (drop l.index l.blocks) ≡ nothing_entered l.blocks
