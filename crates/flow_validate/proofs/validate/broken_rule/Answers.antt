use Rattle.std.proofs.Common.{true, false, sym, ◌∙◌}
use Rattle.flow_class.specs.View.{class_of}
use Rattle.flow_validate.proofs.Verdicts.{broken_by}
use Rattle.flow_validate.proofs.validate.broken_rule.Goals as goal

pub returns-then-not-branch-3-clause-rule : goal.returns-then-not-branch-3-clause-rule
returns-then-not-branch-3-clause-rule c = λ r sees.
    broken_by r (class_of c.args.class.now) true true true true false
    (sym c.if-not-names_exist.false ∙ c.names_exist.ensures) (sym c.if-not-leads_forward.false ∙ c.leads_forward.ensures)
    (sym c.if-not-branch.false ∙ c.in_ok-groups_chosen.ensures) (sym c.if-not-branch-2.false ∙ c.in_ok-catchers_kept.ensures)
    (sym c.if-not-branch-3.true ∙ c.in_ok-is_typed.ensures r sees)

pub returns-clause-rule : goal.returns-clause-rule
returns-clause-rule c = λ r sees.
    broken_by r (class_of c.args.class.now) true true true true true
    (sym c.if-not-names_exist.false ∙ c.names_exist.ensures) (sym c.if-not-leads_forward.false ∙ c.leads_forward.ensures)
    (sym c.if-not-branch.false ∙ c.in_ok-groups_chosen.ensures) (sym c.if-not-branch-2.false ∙ c.in_ok-catchers_kept.ensures)
    (sym c.if-not-branch-3.false ∙ c.in_ok-is_typed.ensures r sees)
