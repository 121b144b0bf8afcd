use Rattle.flow_simplify.proofs.Dividing.{divisor_some}
use Rattle.flow_simplify.proofs.common.multiple.Goals as goal

pub nonzero_div-result : goal.nonzero_div-result
nonzero_div-result c = divisor_some c.args.a c.args.b _ c.requires.some c.greatest_divisor.ensures
