use Rattle.flow_step_refinement.proofs.Refers.{value_there, arguments_there}
use Rattle.flow_step_refinement.proofs.referring.evaluation_refers_to_what_is_there.Goals as goal

pub returns-clause-value : goal.returns-clause-value
returns-clause-value c = value_there

pub returns-clause-arguments : goal.returns-clause-arguments
returns-clause-arguments c = arguments_there
