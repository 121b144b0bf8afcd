use Rattle.flow_sweep.proofs.Counting.{CountedTo}
use Rattle.flow_sweep.proofs.tally.add_shown.Given as goal

abbrev pub invariant-loop-k : goal.invariant-loop-k
invariant-loop-k l = CountedTo l.shown l.initial.counts.items l.counts.items l.k
