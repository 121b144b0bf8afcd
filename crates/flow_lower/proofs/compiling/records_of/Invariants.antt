use Rattle.std.proofs.Common.{◌≡◌, map, take}
use Rattle.flow_tree.specs.DeclView.{decl_of, record_of}
use Rattle.flow_meaning.specs.Source.{records_in}
use Rattle.flow_lower.proofs.compiling.records_of.Given as goal

abbrev pub invariant-loop-decl : goal.invariant-loop-decl
invariant-loop-decl l = map record_of l.records.items ≡ records_in (map decl_of (take l.decl-index l.decls))
