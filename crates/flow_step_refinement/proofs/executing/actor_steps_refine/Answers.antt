use Rattle.flow_step_refinement.proofs.Ends.{step_follows}
use Rattle.flow_step_refinement.proofs.executing.actor_steps_refine.Goals as goal

pub returns : goal.returns
returns c = step_follows
