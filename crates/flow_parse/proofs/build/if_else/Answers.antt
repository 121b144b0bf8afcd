use Rattle.std.proofs.Common.{ap, ◌∙◌}
use Rattle.std.specs.declared.option.Option.TheVariants.{Some}
use Rattle.flow_base.specs.declared.place.Place.{Place}
use Rattle.flow_tree.specs.declared.stmt.Stmt.{fold-roll-Stmt}
use Rattle.flow_tree.specs.declared.stmt.StmtKind.TheVariants as kind
use Rattle.flow_tree.specs.StmtView.{kind_step, stmt_step, branch_step}
use Rattle.flow_tree.specs.Body.{Body, Branches}
use Rattle.flow_parse.proofs.OtherBody.{kind_if_else}
use Rattle.flow_parse.proofs.build.if_else.Goals as goal

pub returns-clause-is : goal.returns-clause-is
returns-clause-is c rest =
    ap (λ f. f rest) (fold-roll-Stmt (Place → Body → Body) (Body → Body) (Branches → Branches) kind_step stmt_step branch_step
    (record { at = c.args.at; kind = kind.If c.args.test c.args.body (Some c.args.other) }))
    ∙ ap (λ f. f c.args.at rest) (kind_if_else c.args.test c.args.body c.args.other)
