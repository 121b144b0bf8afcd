use Rattle.std.proofs.Common.{◌<◌, length, get_or, ap, ◌∙◌, arith}
use Rattle.flow_code.proofs.Resolved.Fields.{fields_step, keeps_then}
use Rattle.flow_code.proofs.expr.names.number_fields.Goals as goal

pub loop-field-preserved : goal.loop-field-preserved
loop-field-preserved c =
    let lt : c.loop-field.field-index < length c.args.of.now.fields.items = omega (arith, c.loop-field-test.true, ap length c.deref-field-items.ensures.value) in
    record {
      named = fields_step c.args.of.now.fields.items c.loop-field.field-index c.field-item.result c.bytes.result.now c.loop-field.names.keys c.number.new.names.keys
          c.loop-field.numbers.items c.push.new.self.items c.in_ok-number.field-0 lt
          (c.bytes.ensures.bytes ∙ ap (λ p. p.name.name) (c.field-item.is ∙ ap (λ l. get_or l c.loop-field.field-index c.field-item.result) c.deref-field-items.ensures.value))
          c.in_ok-push.ensures.items c.in_ok-number.ensures.kept c.in_ok-number.ensures.named c.loop-field.invariant.named;
      kept = keeps_then c.args.names.now.keys c.loop-field.names.keys c.number.new.names.keys c.loop-field.invariant.kept c.in_ok-number.ensures.kept;
    }
