use Rattle.std.proofs.Common.{◌≡◌, ◌++◌, take}
use Rattle.flow_tree.specs.DeclView.{params_of}
use Rattle.flow_tree.specs.Canon.{fields_text}
use Rattle.flow_show.proofs.source.Source.put_fields.Given as goal

abbrev pub invariant-loop-field : goal.invariant-loop-field
invariant-loop-field l = l.self ≡ l.initial.self ++ fields_text (params_of (take l.field-index l.fields))
