use Rattle.flow_types.specs.Holding.{uses_hold}
use Rattle.flow_types.specs.MapView.{numbered}
use Rattle.flow_types.proofs.Holders.{fields_step, fields_end}
use Rattle.flow_types.proofs.top_names.fields_uses.Goals as goal

pub loop-field-preserved : goal.loop-field-preserved
loop-field-preserved c = λ g.
    fields_step (numbered c.args.meanings.now g) c.args.fields.now c.loop-field.field-index c.field-item.result (uses_hold g c.loop-field.uses) (uses_hold g c.note_field.new.uses) _
    c.loop-field-test.true c.field-item.is (c.in_ok-note_field.ensures g) (c.loop-field.invariant g)

pub returns : goal.returns
returns c = λ g.
    fields_end (numbered c.args.meanings.now g) c.args.fields.now c.loop-field.field-index (uses_hold g c.loop-field.uses) _ c.loop-field-test.false (c.loop-field.invariant g)
