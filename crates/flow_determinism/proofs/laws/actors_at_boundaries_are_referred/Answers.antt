use Rattle.flow_determinism.proofs.Referred.{sources_referred}
use Rattle.flow_determinism.proofs.laws.actors_at_boundaries_are_referred.Goals as goal

pub returns : goal.returns
returns c = sources_referred
