use Rattle.std.proofs.Common.{sym, subst, ◌∙◌}
use Rattle.flow_class.specs.View.{class_of}
use Rattle.flow_valid.specs.Filling.{ReadsFilled}
use Rattle.flow_valid.specs.Validity.{tested, unfilled}
use Rattle.flow_validate.specs.WalkStates.{FilledOr}
use Rattle.flow_validate.proofs.validate.class_rule.Goals as goal

pub returns-in-Some : goal.returns-in-Some
returns-in-Some c = λ r sees. tested (sym (c.in_ok-rule.ensures.rule r sees) ∙ c.in-Some.is)

pub returns-then-not-branch : goal.returns-then-not-branch
returns-then-not-branch c = λ r sees.
    let class = class_of c.args.class.now in
    unfilled (sym (c.in_ok-rule.ensures.rule r sees) ∙ c.in_default.is) (subst (FilledOr class (ReadsFilled class)) c.if-not-branch.true c.in_ok-reads_filled.ensures)

pub returns : goal.returns
returns c = λ r sees.
    let class = class_of c.args.class.now in
    record {
      tested = sym (c.in_ok-rule.ensures.rule r sees) ∙ c.in_default.is;
      filled = subst (FilledOr class (ReadsFilled class)) c.if-not-branch.false c.in_ok-reads_filled.ensures;
    }
