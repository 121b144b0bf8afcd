use Rattle.flow_operation_refinement.proofs.Doing.{top_follows, task_follows}
use Rattle.flow_operation_refinement.proofs.tasking.task_steps_refine.Goals as goal

pub returns-clause-top : goal.returns-clause-top
returns-clause-top c = top_follows

pub returns-clause-task : goal.returns-clause-task
returns-clause-task c = task_follows
