use Rattle.std.proofs.Common.{map, take}
use Rattle.flow_tree.specs.DeclView.{record_of}
use Rattle.flow_code.specs.Resolved.Named.{AllNamed, Keeps}
use Rattle.flow_code.proofs.expr.names.number_records.Given as goal

abbrev pub invariant-loop-record : goal.invariant-loop-record
invariant-loop-record l = record {
  named : AllNamed l.names.keys l.numbers.items (map record_of (take l.record-index l.records));
  kept : Keeps l.initial.names.keys l.names.keys;
}
