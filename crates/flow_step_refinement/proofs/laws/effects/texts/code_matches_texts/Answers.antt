use Rattle.flow_step_refinement.proofs.Effects.Decoded.{effect_coded, operand_coded, call_coded, void_coded, method_coded}
use Rattle.flow_step_refinement.proofs.laws.effects.texts.code_matches_texts.Goals as goal

pub returns-clause-effect : goal.returns-clause-effect
returns-clause-effect c = effect_coded

pub returns-clause-operand : goal.returns-clause-operand
returns-clause-operand c = operand_coded

pub returns-clause-call : goal.returns-clause-call
returns-clause-call c = call_coded

pub returns-clause-void : goal.returns-clause-void
returns-clause-void c = void_coded

pub returns-clause-method : goal.returns-clause-method
returns-clause-method c = method_coded
