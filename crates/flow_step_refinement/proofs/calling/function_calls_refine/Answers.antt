use Rattle.flow_operation_refinement.proofs.Arguments.{args_follow}
use Rattle.flow_step_refinement.proofs.Calls.{function_step}
use Rattle.flow_step_refinement.proofs.calling.function_calls_refine.Goals as goal

pub returns-clause-arguments : goal.returns-clause-arguments
returns-clause-arguments c r ls x m p i e f code s es st coded time few = args_follow r ls x m p i e f code s st coded time few es

pub returns-clause-function : goal.returns-clause-function
returns-clause-function c = function_step
