use Rattle.flow_step_refinement.proofs.Effects.Instructing.{effect_does, operand_does, call_does, void_does, method_does}
use Rattle.flow_step_refinement.proofs.laws.effects.instructed.effect_instructions_refine.Goals as goal

pub returns-clause-effect : goal.returns-clause-effect
returns-clause-effect c = effect_does

pub returns-clause-operand : goal.returns-clause-operand
returns-clause-operand c = operand_does

pub returns-clause-call : goal.returns-clause-call
returns-clause-call c = call_does

pub returns-clause-void : goal.returns-clause-void
returns-clause-void c = void_does

pub returns-clause-method : goal.returns-clause-method
returns-clause-method c = method_does
