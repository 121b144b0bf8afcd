use Rattle.flow_operation_refinement.proofs.Waited.{wait_done}
use Rattle.flow_operation_refinement.proofs.keeping.suspensions_refine.Goals as goal

pub returns : goal.returns
returns c = wait_done
