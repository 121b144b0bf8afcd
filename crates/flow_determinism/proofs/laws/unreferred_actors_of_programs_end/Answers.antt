use Rattle.flow_determinism.proofs.Ended.{sources_end}
use Rattle.flow_determinism.proofs.laws.unreferred_actors_of_programs_end.Goals as goal

pub returns : goal.returns
returns c = sources_end
