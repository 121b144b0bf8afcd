use Rattle.flow_operation_refinement.proofs.Stands.{stand_follows}
use Rattle.flow_operation_refinement.proofs.standing.control_points_refine.Goals as goal

pub returns : goal.returns
returns c = stand_follows
