use Rattle.std.proofs.Common.{map, take}
use Rattle.flow_tree.specs.DeclView.{param_of}
use Rattle.flow_code.specs.Resolved.Named.{AreNamed, Keeps, param_name}
use Rattle.flow_code.proofs.expr.names.number_fields.Given as goal

abbrev pub invariant-loop-field : goal.invariant-loop-field
invariant-loop-field l = record {
  named : AreNamed param_name l.names.keys l.numbers.items (map param_of (take l.field-index l.of.fields.items));
  kept : Keeps l.initial.names.keys l.names.keys;
}
