use Rattle.flow_types.proofs.Levels.{Sweeping}
use Rattle.flow_types.proofs.holding.sweep.Given as goal

abbrev pub invariant-loop-number : goal.invariant-loop-number
invariant-loop-number l = Sweeping l.uses l.initial.marks.items l.marks.items l.number l.more
