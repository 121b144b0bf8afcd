use Rattle.flow_operation_refinement.proofs.Ended.{actor_closed}
use Rattle.flow_operation_refinement.proofs.delivering.actor_ends_refine.Goals as goal

pub returns : goal.returns
returns c = actor_closed
