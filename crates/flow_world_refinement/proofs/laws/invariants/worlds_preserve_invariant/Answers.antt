use Rattle.flow_world_refinement.proofs.Invariants.Lasting.{lasting_starts, lasting_stays}
use Rattle.flow_world_refinement.proofs.laws.invariants.worlds_preserve_invariant.Goals as goal

pub returns-clause-start : goal.returns-clause-start
returns-clause-start c = lasting_starts

pub returns-clause-event : goal.returns-clause-event
returns-clause-event c = lasting_stays
