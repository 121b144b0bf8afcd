use Rattle.std.proofs.Common.{map, sym, ◌∙◌}
use Rattle.std.specs.Option.{option_map}
use Rattle.flow_tree.specs.DeclView.{decl_of}
use Rattle.flow_types.specs.View.{meaning_of}
use Rattle.flow_class.specs.View.{class_of}
use Rattle.flow_valid.specs.Validity.{declaration, head, main}
use Rattle.flow_validate.proofs.Verdicts.{kept_by, head_by, main_by}
use Rattle.flow_validate.proofs.validate.judge_heads.Goals as goal

pub returns-then-not-branch-clause-refused : goal.returns-then-not-branch-clause-refused
returns-then-not-branch-clause-refused c = λ r sees plain classes.
    let kept = kept_by r c.args.names.now (map decl_of c.args.plain.now) c.in_ok-declarations_kept.field-0 sees plain c.in_ok-declarations_kept.ensures in
    rw c.number.ensures (declaration (sym kept ∙ c.if-not-branch.true))

pub returns-in-Some-clause-refused : goal.returns-in-Some-clause-refused
returns-in-Some-clause-refused c = λ r sees plain classes.
    let n = c.args.names.now in
    let ds = map decl_of c.args.plain.now in
    let kept = kept_by r n ds c.in_ok-declarations_kept.field-0 sees plain c.in_ok-declarations_kept.ensures in
    let broken = head_by r n ds (map class_of c.args.classes.now) c.in_ok-class.field-0 sees plain classes c.in_ok-class.ensures in
    rw c.number-in-Some.ensures (head (sym kept ∙ c.if-not-branch.false) (sym broken ∙ c.in-Some.is))

pub returns-then-not-is_main-clause-refused : goal.returns-then-not-is_main-clause-refused
returns-then-not-is_main-clause-refused c = λ r sees plain classes.
    let n = c.args.names.now in
    let ds = map decl_of c.args.plain.now in
    let kept = kept_by r n ds c.in_ok-declarations_kept.field-0 sees plain c.in_ok-declarations_kept.ensures in
    let broken = head_by r n ds (map class_of c.args.classes.now) c.in_ok-class.field-0 sees plain classes c.in_ok-class.ensures in
    let is = main_by r n (option_map meaning_of c.find.result) c.is_main.result sees c.find.ensures c.is_main.ensures in
    rw c.number-then-not-is_main.ensures (main (sym kept ∙ c.if-not-branch.false) (sym broken ∙ c.in_default.is) (sym is ∙ c.if-not-is_main.true))

pub returns-clause-kept : goal.returns-clause-kept
returns-clause-kept c = λ r sees plain classes.
    let n = c.args.names.now in
    let ds = map decl_of c.args.plain.now in
    let kept = kept_by r n ds c.in_ok-declarations_kept.field-0 sees plain c.in_ok-declarations_kept.ensures in
    let broken = head_by r n ds (map class_of c.args.classes.now) c.in_ok-class.field-0 sees plain classes c.in_ok-class.ensures in
    let is = main_by r n (option_map meaning_of c.find.result) c.is_main.result sees c.find.ensures c.is_main.ensures in
    record {
      declarations = sym kept ∙ c.if-not-branch.false;
      heads = sym broken ∙ c.in_default.is;
      main = sym is ∙ c.if-not-is_main.false;
    }
