use Rattle.flow_step_refinement.proofs.Effects.Effecting.{effect_step, effect_operand_step}
use Rattle.flow_step_refinement.proofs.laws.effects.effects.effects_refine.Goals as goal

pub returns-clause-stored : goal.returns-clause-stored
returns-clause-stored c = effect_step

pub returns-clause-operand : goal.returns-clause-operand
returns-clause-operand c = effect_operand_step
