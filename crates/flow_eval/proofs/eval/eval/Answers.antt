use Rattle.std.proofs.Common.{map, sym, subst}
use Rattle.flow_ast.specs.TypingNames.{named}
use Rattle.flow_tree.specs.View.{expr_of}
use Rattle.flow_eval.specs.Functions.{Eval}
use Rattle.flow_eval.specs.Meaning.{Means, setting_with}
use Rattle.flow_eval.specs.Variables.{var_of}
use Rattle.flow_eval.specs.WellTyped.{HasMeaning}
use Rattle.flow_eval.proofs.TypesKept.{expression_means}
use Rattle.flow_eval.proofs.eval.eval.Goals as goal

pub evaluated-requires : goal.evaluated-requires
evaluated-requires g c =
    subst (λ s. HasMeaning (Eval s (named (map var_of c.args.vars.now)) (expr_of c.args.expr.now) c.args.turns.now.left)) (sym c.setting.ensures)
    (expression_means (setting_with c.args.plain.now.records.items c.args.plain.now.functions.items (g.V.CellView.content c.args.view.now) c.args.now) (named (map var_of c.args.vars.now))
    (expr_of c.args.expr.now) c.args.turns.now.left c.requires.typed)

pub returns : goal.returns
returns g c =
    subst (λ s. Means (Eval s (named (map var_of c.args.vars.now)) (expr_of c.args.expr.now) c.args.turns.now.left) c.evaluated.result c.evaluated.new.turns.left) c.setting.ensures
    c.evaluated.ensures
