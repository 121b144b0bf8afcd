use Rattle.std.proofs.Common.{arith}
use Rattle.flow_show.proofs.Texts.{fields_step}
use Rattle.flow_show.proofs.source.Source.put_fields.Goals as goal

pub loop-field-preserved : goal.loop-field-preserved
loop-field-preserved c =
    fields_step c.args.fields.now c.loop-field.field-index c.field-item.result _ _ _ _ _ (omega (arith, c.loop-field-test.true)) c.field-item.is c.loop-field.invariant
    c.in_ok-put.ensures c.in_ok-put_named.ensures c.in_ok-put-2.ensures
