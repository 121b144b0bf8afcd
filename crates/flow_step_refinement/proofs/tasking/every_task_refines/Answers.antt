use Rattle.flow_step_refinement.proofs.Tasks.{task_follows}
use Rattle.flow_step_refinement.proofs.tasking.every_task_refines.Goals as goal

pub returns : goal.returns
returns c = task_follows
