use Rattle.std.proofs.Common.{◌≡◌, drop, map, position}
use Rattle.std.specs.Str.{bytes_eq}
use Rattle.flow_tree.specs.DeclView.{decl_of}
use Rattle.flow_ast.specs.Typing.{is_there}
use Rattle.flow_meaning.specs.Source.{actors_in, routine_name}
use Rattle.flow_split.proofs.effects.has_actor.Given as goal

abbrev pub invariant-loop-decl : goal.invariant-loop-decl
invariant-loop-decl l =
    is_there (position (bytes_eq l.name) (map routine_name (actors_in (map decl_of (drop l.decl-index l.program.decls.items)))))
    ≡ is_there (position (bytes_eq l.name) (map routine_name (actors_in (map decl_of l.program.decls.items))))
