use Rattle.flow_world_refinement.proofs.Effects.Vanishing.{loss_follows}
use Rattle.flow_world_refinement.proofs.laws.effects.power_losses_refine.Goals as goal

pub returns : goal.returns
returns c = loss_follows
