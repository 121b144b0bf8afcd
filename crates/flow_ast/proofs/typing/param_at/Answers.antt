use Rattle.std.proofs.Common.{ap, ◌∙◌}
use Rattle.std.specs.Option.{option_map}
use Rattle.std.specs.Str.{bytes_eq}
use Rattle.flow_tree.specs.DeclView.{param_of}
use Rattle.flow_tree.specs.Decls.{ParamTree}
use Rattle.flow_ast.proofs.TypingScope.{map-find}
use Rattle.flow_ast.proofs.typing.param_at.Goals as goal

pub returns : goal.returns
returns c =
    ap (option_map param_of) c.find_named.ensures
    ∙ map-find param_of (λ (x : ParamTree). bytes_eq x.name.name c.args.name.now) c.args.params.now
