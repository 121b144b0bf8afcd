use Rattle.flow_operation_refinement.proofs.Seen.{expr_follows}
use Rattle.flow_operation_refinement.proofs.seeing.expressions_refine.Goals as goal

pub returns : goal.returns
returns c = expr_follows
