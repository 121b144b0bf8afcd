use Rattle.std.proofs.Common.{◌≡◌, map, drop}
use Rattle.flow_tree.specs.View.{type_of}
use Rattle.flow_ast.specs.Typing.{same_types}
use Rattle.flow_ast.proofs.typing.fit.Given as goal

abbrev pub invariant-loop-i : goal.invariant-loop-i
invariant-loop-i g l =
    same_types (map g.P.HasType.type_at l.params) (map type_of l.types) ≡ same_types (map g.P.HasType.type_at (drop l.i l.params)) (map type_of (drop l.i l.types))
