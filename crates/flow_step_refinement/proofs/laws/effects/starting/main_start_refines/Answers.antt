use Rattle.flow_step_refinement.proofs.Effects.Boots.{main_boots}
use Rattle.flow_step_refinement.proofs.laws.effects.starting.main_start_refines.Goals as goal

pub returns : goal.returns
returns c = main_boots
