use Rattle.std.proofs.Common.{◌∙◌, ◌++◌, ap, arith}
use Rattle.flow_show.proofs.Texts.{names_step}
use Rattle.flow_show.proofs.source.Source.put_more_names.Goals as goal

pub loop-name-preserved : goal.loop-name-preserved
loop-name-preserved c =
    names_step c.args.names.now c.loop-name.name-index c.name-item.result _ _ _ _ (omega (arith, c.loop-name-test.true)) c.name-item.is c.loop-name.invariant
    (c.in_ok-put.ensures) (c.in_ok-put-2.ensures ∙ ap (λ l. c.put.new.self ++ l) c.bytes.ensures.bytes)
