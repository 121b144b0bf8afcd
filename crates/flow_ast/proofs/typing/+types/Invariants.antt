use Rattle.std.proofs.Common.{◌≡◌, map, drop}
use Rattle.flow_tree.specs.View.{type_of, exprs_of}
use Rattle.flow_ast.specs.Typing.{types_in}
use Rattle.flow_ast.specs.TypingView.{scope_of}
use Rattle.flow_ast.proofs.TypingArgs.{before}
use Rattle.flow_ast.proofs.typing.+types.Given as goal

abbrev pub invariant-arg_types-loop-arg : goal.invariant-arg_types-loop-arg
invariant-arg_types-loop-arg l =
    types_in (scope_of l.scope) (exprs_of l.args) ≡ before (map type_of l.types.items) (types_in (scope_of l.scope) (exprs_of (drop l.arg-index l.args)))
