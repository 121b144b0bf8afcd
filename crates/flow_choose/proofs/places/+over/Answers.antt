use Rattle.std.proofs.Common.{arith}
use Rattle.flow_choose.specs.Places.{slots_seen}
use Rattle.flow_choose.proofs.Exprs.{exprs_step}
use Rattle.flow_choose.proofs.places.+over.Goals as goal

pub over_all-loop-expr-preserved : goal.over_all-loop-expr-preserved
over_all-loop-expr-preserved t c =
    exprs_step (slots_seen c.args.slots.now) c.args.scopes.now c.args.exprs.now c.loop-expr.expr-index c.expr-item.result _ _ _ (omega (arith, c.loop-expr-test.true)) c.expr-item.is
    c.in_ok-over.ensures c.in_ok-push.ensures.items c.loop-expr.invariant
