use Rattle.std.proofs.Common.{◌≡◌, map, drop}
use Rattle.flow_tree.specs.DeclView.{function_of}
use Rattle.flow_ast.specs.Typing.{routine_named}
use Rattle.flow_eval.proofs.evaluate.function_place.Given as goal

abbrev pub invariant-loop-k : goal.invariant-loop-k
invariant-loop-k l = routine_named (map function_of l.functions) l.name ≡ routine_named (map function_of (drop l.k l.functions)) l.name
