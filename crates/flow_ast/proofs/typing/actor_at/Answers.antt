use Rattle.std.proofs.Common.{ap, ◌∙◌}
use Rattle.std.specs.Option.{option_map}
use Rattle.std.specs.Str.{bytes_eq}
use Rattle.flow_tree.specs.DeclView.{actor_of}
use Rattle.flow_tree.specs.Decls.{RoutineTree}
use Rattle.flow_ast.proofs.TypingScope.{map-find}
use Rattle.flow_ast.proofs.typing.actor_at.Goals as goal

pub returns : goal.returns
returns c =
    ap (option_map actor_of) c.find_named.ensures
    ∙ map-find actor_of (λ (x : RoutineTree). bytes_eq x.name.name c.args.name.now) c.args.actors.now
