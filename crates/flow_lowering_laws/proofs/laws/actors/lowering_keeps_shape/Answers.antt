use Rattle.flow_lowering_laws.proofs.Actors.Shapes.{keeps_shape}
use Rattle.flow_lowering_laws.proofs.laws.actors.lowering_keeps_shape.Goals as goal

pub returns : goal.returns
returns c = keeps_shape
