use Rattle.std.proofs.Common.{ap, sym, ◌∙◌, map}
use Rattle.flow_tree.specs.View.{type_of}
use Rattle.flow_tree.specs.DeclView.{param_of}
use Rattle.flow_tree.specs.Decls.{ParamTree}
use Rattle.flow_ast.specs.Typing.{same_types}
use Rattle.flow_ast.proofs.TypingScope.{map-two}
use Rattle.flow_ast.proofs.typing.fit_params.Goals as goal

pub returns : goal.returns
returns c =
    c.fit.ensures ∙ ap (λ l. same_types l (map type_of c.args.types.now)) (sym (map-two param_of (λ (p : ParamTree). p.ty) c.args.params.now))
