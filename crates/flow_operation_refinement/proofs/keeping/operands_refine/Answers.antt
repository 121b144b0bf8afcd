use Rattle.flow_operation_refinement.proofs.Kept.{operand_follows}
use Rattle.flow_operation_refinement.proofs.keeping.operands_refine.Goals as goal

pub returns : goal.returns
returns c = operand_follows
