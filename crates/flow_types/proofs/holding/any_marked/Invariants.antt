use Rattle.std.proofs.Common.{◌≡◌, drop}
use Rattle.std.specs.List.{list_any}
use Rattle.flow_types.specs.Holding.{marked}
use Rattle.flow_types.proofs.holding.any_marked.Given as goal

abbrev pub invariant-loop-number : goal.invariant-loop-number
invariant-loop-number l = list_any (marked l.marks) (drop l.number-index l.numbers) ≡ list_any (marked l.marks) l.numbers
