use Rattle.flow_validate.proofs.Passes.{some_bit}
use Rattle.flow_validate.proofs.filling.is_any.Goals as goal

pub returns : goal.returns
returns c = some_bit c.args.bits c.ranges.bits.fits c.if-bits-eq0.false
