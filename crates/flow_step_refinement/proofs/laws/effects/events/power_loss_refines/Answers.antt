use Rattle.flow_step_refinement.proofs.Effects.Brings.{vanishes}
use Rattle.flow_step_refinement.proofs.laws.effects.events.power_loss_refines.Goals as goal

pub returns : goal.returns
returns c = vanishes
