use Rattle.std.proofs.Common.{false, ap, ◌∙◌}
use Rattle.flow_tree.specs.DeclView.{params_of}
use Rattle.flow_ast.specs.TypingNames.{named}
use Rattle.flow_rules.specs.Items.{among}
use Rattle.flow_rules.specs.Rules.{with_name, fields_fault}
use Rattle.flow_types.specs.MapView.{rows_of}
use Rattle.flow_types.specs.WalkView.{texts_of}
use Rattle.flow_types.proofs.Programs.{fields_step, text_taken, texts}
use Rattle.flow_types.proofs.program.fields_fault.Goals as goal

pub loop-field-preserved : goal.loop-field-preserved
loop-field-preserved c =
    let k = named (rows_of c.args.before.now) in
    let taken = among (texts_of c.loop-field.names) in
    let more = ap (λ l. among (texts l)) c.in_ok-insert.ensures.keys ∙ text_taken c.loop-field.names.keys c.bytes.result ∙ ap (λ x. with_name x taken) c.bytes.ensures.bytes in
    fields_step k c.args.fields.now c.loop-field.field-index c.field-item.result c.loop-field.fault c.field_fault.result c.lesser-fault.result
    (fields_fault k (λ x. false) (params_of c.args.fields.now))
    taken (among (texts_of c.insert.new.self)) c.loop-field-test.true c.field-item.is c.field_fault.ensures c.lesser-fault.ensures more c.loop-field.invariant
