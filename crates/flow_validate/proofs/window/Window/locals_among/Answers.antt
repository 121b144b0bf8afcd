use Rattle.flow_validate.proofs.Passing.{more_locals}
use Rattle.flow_validate.proofs.window.Window.locals_among.Goals as goal

pub loop-number-preserved : goal.loop-number-preserved
loop-number-preserved c =
    more_locals c.args.self c.args.numbers.now c.loop-number.number-index _ c.loop-number.bits c.bit-bits.result
    c.loop-number-test.true c.loop-number.invariant c.bit-bits.ensures
