use Rattle.std.proofs.Common.{◌≡◌, ◌+◌, ◌*◌, ◌-◌, ◌^◌, min, get_or, ◌∙◌, arith}
use Rattle.flow_class.proofs.Digits.{read_more}
use Rattle.flow_class.proofs.places.capped_number.Goals as goal

pub loop-digit-preserved : goal.loop-digit-preserved
loop-digit-preserved c =
    let next : c.saturating_add-n.result ≡ min (min (c.loop-digit.n * 10) (2 ^ 64 - 1) + (get_or c.args.digits.now c.loop-digit.digit-index 0 - 48)) (2 ^ 64 - 1) =
    omega (arith, c.saturating_add-n.ensures, c.saturating_mul.ensures, c.saturating_sub.ensures, c.from.ensures) in
    record {
      below = omega arith;
      number = c.loop-digit.invariant.number ∙ read_more c.loop-digit.n c.saturating_add-n.result c.args.digits.now c.loop-digit.digit-index c.loop-digit-test.true next;
    }
