use Rattle.flow_step_refinement.proofs.Paths.{path_put}
use Rattle.flow_step_refinement.proofs.Assigns.{set_step, empty_step, new_step}
use Rattle.flow_step_refinement.proofs.assigning.assignments_refine.Goals as goal

pub returns-clause-path : goal.returns-clause-path
returns-clause-path c = path_put

pub returns-clause-set : goal.returns-clause-set
returns-clause-set c = set_step

pub returns-clause-empty : goal.returns-clause-empty
returns-clause-empty c = empty_step

pub returns-clause-cell : goal.returns-clause-cell
returns-clause-cell c = new_step
