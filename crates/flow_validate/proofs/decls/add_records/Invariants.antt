use Rattle.std.proofs.Common.{◌≡◌, ◌++◌, map}
use Rattle.flow_tree.specs.Decls as tree
use Rattle.flow_tree.specs.DeclView.{record_of, decl_of}
use Rattle.flow_validate.proofs.decls.add_records.Given as goal

abbrev pub invariant-loop-record : goal.invariant-loop-record
invariant-loop-record l = (l.yielded ++ l.record-iterator.rest.items ≡ l.fn.records.items) × (map decl_of l.decls.items ≡ map decl_of l.fn.decls.items ++ map tree.StructDecl (map record_of l.yielded))
