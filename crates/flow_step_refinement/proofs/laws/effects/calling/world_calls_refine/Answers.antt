use Rattle.flow_step_refinement.proofs.Effects.Calls.{predefined_step, void_step}
use Rattle.flow_step_refinement.proofs.Effects.Methods.{method_step, method_of_step}
use Rattle.flow_step_refinement.proofs.laws.effects.calling.world_calls_refine.Goals as goal

pub returns-clause-predefined : goal.returns-clause-predefined
returns-clause-predefined c = predefined_step

pub returns-clause-void : goal.returns-clause-void
returns-clause-void c = void_step

pub returns-clause-method : goal.returns-clause-method
returns-clause-method c = method_step

pub returns-clause-method_of : goal.returns-clause-method_of
returns-clause-method_of c = method_of_step
