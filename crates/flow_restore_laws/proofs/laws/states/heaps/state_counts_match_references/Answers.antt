use Rattle.flow_restore_laws.proofs.States.Times.{times_counted}
use Rattle.flow_restore_laws.proofs.laws.states.heaps.state_counts_match_references.Goals as goal

pub returns : goal.returns
returns c = times_counted
