use Rattle.std.proofs.Common.{◌≡◌, ◌++◌, map, take}
use Rattle.flow_tree.specs.DeclView.{record_of}
use Rattle.flow_classprint.specs.ClassText.{all_text, record_text}
use Rattle.flow_classprint.proofs.print.put_records.Given as goal

abbrev pub invariant-loop-record : goal.invariant-loop-record
invariant-loop-record l = l.out ≡ l.initial.out ++ all_text record_text (map record_of (take l.record-index l.records))
