use Rattle.std.proofs.Common.{◌≡◌, ◌++◌, map}
use Rattle.flow_tree.specs.DeclView.{record_of, function_of, decl_of}
use Rattle.flow_validate.specs.Apart.{records_in, functions_in}
use Rattle.flow_validate.proofs.decls.apart.Given as goal

abbrev pub invariant-loop-decl : goal.invariant-loop-decl
invariant-loop-decl l = record {
  rest : l.yielded ++ l.decl-iterator.rest.items ≡ l.fn.decls.items;
  records : map record_of l.plain.records.items ≡ records_in (map decl_of l.yielded);
  functions : map function_of l.plain.functions.items ≡ functions_in (map decl_of l.yielded);
}
