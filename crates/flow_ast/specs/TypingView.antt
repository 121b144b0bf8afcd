-- What is in force, and the type that was found, seen as plain data.
use Rattle.std.specs.Prelude.{List, map}
use Rattle.std.specs.declared.alloc.Global.{Global}
use Rattle.std.specs.declared.vec.Vec.{Vec}
use Rattle.flow_tree.specs.declared.ty.Ty.{Ty}
use Rattle.std.specs.declared.option.Option.{Option}
use Rattle.std.specs.declared.option.Option.TheVariants as option
use Rattle.flow_ast.specs.declared.scope.Scope.{Scope}
use Rattle.flow_ast.specs.declared.scope.ExprType.{ExprType}
use Rattle.flow_ast.specs.declared.scope.ExprType.TheVariants.{Is, None}
use Rattle.flow_tree.specs.Tree.{TypeTree}
use Rattle.flow_tree.specs.View.{type_of}
use Rattle.flow_tree.specs.DeclView.{param_of, record_of, function_of, actor_of}
use Rattle.flow_ast.specs.Typing.{ScopeTree}

abbrev pub scope_of : Scope → ScopeTree
scope_of s = record {
  records = map record_of s.records.items;
  functions = map function_of s.functions.items;
  actors = map actor_of s.actors.items;
  vars = map param_of s.vars.items;
}

abbrev pub found_type : ExprType → Option TypeTree
found_type (Is t) = option.Some (type_of t)
found_type None = option.None

abbrev pub found_types : Option (Vec Ty Global) → Option (List TypeTree)
found_types (option.Some v) = option.Some (map type_of v.items)
found_types option.None = option.None
