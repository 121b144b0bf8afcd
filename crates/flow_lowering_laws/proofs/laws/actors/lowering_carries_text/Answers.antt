use Rattle.flow_lowering_laws.proofs.Actors.Whole.{keeps_text}
use Rattle.flow_lowering_laws.proofs.laws.actors.lowering_carries_text.Goals as goal

pub returns : goal.returns
returns c = keeps_text
