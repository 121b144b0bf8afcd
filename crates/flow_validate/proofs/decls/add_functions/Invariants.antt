use Rattle.std.proofs.Common.{◌≡◌, ◌++◌, map}
use Rattle.flow_tree.specs.Decls as tree
use Rattle.flow_tree.specs.DeclView.{function_of, decl_of}
use Rattle.flow_validate.proofs.decls.add_functions.Given as goal

abbrev pub invariant-loop-function : goal.invariant-loop-function
invariant-loop-function l = (l.yielded ++ l.function-iterator.rest.items ≡ l.fn.functions.items)
    × (map decl_of l.decls.items ≡ map decl_of l.fn.decls.items ++ map tree.FunctionDecl (map function_of l.yielded))
