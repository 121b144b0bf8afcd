use Rattle.flow_lex.proofs.Numbers.{value_passes, value_more}
use Rattle.std.proofs.Common.{◌^◌}
use Rattle.flow_lex.proofs.number.value_of.Goals as goal

pub returns-in_default : goal.returns-in_default
returns-in_default c =
    value_passes c.args.digits.now c.loop-b.b-index (2 ^ 64) c.loop-b.value c.loop-b-test.true c.loop-b.invariant c.in_default.ensures

pub loop-b-preserved : goal.loop-b-preserved
loop-b-preserved c = value_more c.args.digits.now c.loop-b.b-index c.loop-b.value c.in-Some.next c.loop-b-test.true c.loop-b.invariant c.in-Some.ensures
