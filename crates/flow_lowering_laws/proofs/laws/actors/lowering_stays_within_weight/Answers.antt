use Rattle.flow_lowering_laws.proofs.Actors.Blocks.{lowered_within}
use Rattle.flow_lowering_laws.proofs.laws.actors.lowering_stays_within_weight.Goals as goal

pub returns : goal.returns
returns c = lowered_within
