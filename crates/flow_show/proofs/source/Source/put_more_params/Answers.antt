use Rattle.std.proofs.Common.{arith}
use Rattle.flow_show.proofs.Texts.{params_step}
use Rattle.flow_show.proofs.source.Source.put_more_params.Goals as goal

pub loop-param-preserved : goal.loop-param-preserved
loop-param-preserved c =
    params_step c.args.params.now c.loop-param.param-index c.param-item.result _ _ _ _ (omega (arith, c.loop-param-test.true)) c.param-item.is c.loop-param.invariant
    c.in_ok-put.ensures c.in_ok-put_named.ensures
