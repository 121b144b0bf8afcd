use Rattle.std.proofs.Common.{suc, length, map, ap, ◌∙◌}
use Rattle.flow_tree.specs.DeclView.{decl_of}
use Rattle.flow_rules.specs.Known.{known, record_holds}
use Rattle.flow_validate.proofs.Verdicts.{sees_by}
use Rattle.flow_validate.proofs.validate.judge.Goals as goal

pub returns-clause-valid : goal.returns-clause-valid
returns-clause-valid c = λ r parts.
    let k = c.in_ok-names.ensures.known ∙ ap (λ l. known (map decl_of l)) c.deref-2.ensures.value in
    let h = c.in_ok-names.ensures.holds ∙ ap (λ l. record_holds (known (map decl_of l)) (suc (length l))) c.deref-2.ensures.value in
    c.judge_named.ensures.valid r (sees_by r c.in_ok-names.names c.args.gathered.now.decls.items k h parts.all) parts

pub returns-clause-refused : goal.returns-clause-refused
returns-clause-refused c = λ r parts.
    let k = c.in_ok-names.ensures.known ∙ ap (λ l. known (map decl_of l)) c.deref-2.ensures.value in
    let h = c.in_ok-names.ensures.holds ∙ ap (λ l. record_holds (known (map decl_of l)) (suc (length l))) c.deref-2.ensures.value in
    c.judge_named.ensures.refused r (sees_by r c.in_ok-names.names c.args.gathered.now.decls.items k h parts.all) parts
