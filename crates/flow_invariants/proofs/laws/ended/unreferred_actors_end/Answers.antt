use Rattle.flow_invariants.proofs.Ended.{states_end}
use Rattle.flow_invariants.proofs.laws.ended.unreferred_actors_end.Goals as goal

pub returns : goal.returns
returns c = record { states = states_end }
