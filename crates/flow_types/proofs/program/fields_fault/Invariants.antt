use Rattle.std.proofs.Common.{◌≡◌, false, drop}
use Rattle.flow_tree.specs.DeclView.{params_of}
use Rattle.flow_ast.specs.TypingNames.{named}
use Rattle.flow_rules.specs.Least.{lesser}
use Rattle.flow_rules.specs.Items.{among}
use Rattle.flow_rules.specs.Rules.{fields_fault}
use Rattle.flow_types.specs.MapView.{rows_of}
use Rattle.flow_types.specs.WalkView.{texts_of}
use Rattle.flow_types.proofs.program.fields_fault.Given as goal

abbrev pub invariant-loop-field : goal.invariant-loop-field
invariant-loop-field l =
    lesser l.fault (fields_fault (named (rows_of l.before)) (among (texts_of l.names)) (params_of (drop l.field-index l.fields)))
    ≡ fields_fault (named (rows_of l.before)) (λ x. false) (params_of l.fields)
