use Rattle.flow_burst_refinement.proofs.Boundaries.Keeping.{start_keeps, event_keeps, ready_kept, begun_kept, answer_due}
use Rattle.flow_burst_refinement.proofs.laws.boundaries.events_preserve_invariant.Goals as goal

pub returns-clause-start : goal.returns-clause-start
returns-clause-start c = start_keeps

pub returns-clause-event : goal.returns-clause-event
returns-clause-event c = event_keeps

pub returns-clause-ready : goal.returns-clause-ready
returns-clause-ready c = ready_kept

pub returns-clause-begun : goal.returns-clause-begun
returns-clause-begun c = begun_kept

pub returns-clause-due : goal.returns-clause-due
returns-clause-due c = answer_due
