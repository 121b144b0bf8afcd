use Rattle.flow_end_to_end.proofs.Upheld.{upheld_starts, upheld_stays}
use Rattle.flow_end_to_end.proofs.happening.worlds_preserve_memory_invariant.Goals as goal

pub returns-clause-starts : goal.returns-clause-starts
returns-clause-starts c = upheld_starts

pub returns-clause-stays : goal.returns-clause-stays
returns-clause-stays c = upheld_stays
