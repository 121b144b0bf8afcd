use Rattle.std.proofs.Common.{suc, length, map, codes, Ok, Err, [], ap, ◌∙◌}
use Rattle.std.proofs.lemmas.Result.{err_from_is_err_and}
use Rattle.flow_tree.specs.DeclView.{decl_of}
use Rattle.flow_rules.specs.declared.rule.SemanticRule.TheVariants.{NoMain}
use Rattle.flow_rules.specs.Least.{unless}
use Rattle.flow_rules.specs.Known.{known, record_holds}
use Rattle.flow_rules.specs.Items.{item}
use Rattle.flow_rules.specs.Rules.{setting_of, decls_refusal, is_main}
use Rattle.flow_types.specs.ProgramView.{setting_by}
use Rattle.flow_types.proofs.Parts.{says_at}
use Rattle.flow_types.proofs.Programs.{says_first, says_next, setting_all, decls_by, large_by}
use Rattle.flow_types.proofs.program.judge_program.Goals as goal

pub returns-in_err-declarations : goal.returns-in_err-declarations
returns-in_err-declarations c =
    let n = c.in_ok-names.names in
    let ds = c.args.program.now.decls.items in
    let k = c.in_ok-names.ensures.known ∙ ap (λ l. known (map decl_of l)) c.deref-2.ensures.value in
    let h = c.in_ok-names.ensures.holds ∙ ap (λ l. record_holds (known (map decl_of l)) (suc (length l))) c.deref-2.ensures.value in
    let x = c.in_err-declarations.field-0.0 in
    let p = err_from_is_err_and c.from_residual-in_err-declarations.result c.from_residual-in_err-declarations.ensures.1 in
    rw (p.1, p.2) (says_first (decls_refusal (setting_of (map decl_of ds)) [] (map decl_of ds)) _ x
    (decls_by (setting_of (map decl_of ds)) (setting_by n) ds c.deref-4.result.now (Err x) c.deref-4.ensures.value (setting_all n ds k h) c.in_err-declarations.ensures))

pub returns-in_err-item : goal.returns-in_err-item
returns-in_err-item c =
    let n = c.in_ok-names.names in
    let ds = c.args.program.now.decls.items in
    let k = c.in_ok-names.ensures.known ∙ ap (λ l. known (map decl_of l)) c.deref-2.ensures.value in
    let h = c.in_ok-names.ensures.holds ∙ ap (λ l. record_holds (known (map decl_of l)) (suc (length l))) c.deref-2.ensures.value in
    let x = c.in_err-item.field-0.0 in
    let p = err_from_is_err_and c.from_residual-in_err-item.result c.from_residual-in_err-item.ensures.1 in
    let u = c.in_ok-declarations.field-0 in
    let before = decls_by (setting_of (map decl_of ds)) (setting_by n) ds c.deref-4.result.now (Ok u) c.deref-4.ensures.value (setting_all n ds k h) c.in_ok-declarations.ensures in
    let main = c.unless.ensures ∙ ap (λ b. unless b NoMain) (c.is_main.ensures ∙ ap is_main (c.find.ensures ∙ ap (λ f. f (codes "main")) k)) in
    rw (p.1, p.2) (says_next (decls_refusal (setting_of (map decl_of ds)) [] (map decl_of ds)) _ (Err x) before
    (says_first (item c.args.program.now.end (unless (is_main (known (map decl_of ds) (codes "main"))) NoMain)) _ x (says_at c.args.program.now.end _ _ (Err x) main c.in_err-item.ensures)))

pub returns : goal.returns
returns c =
    let n = c.in_ok-names.names in
    let ds = c.args.program.now.decls.items in
    let k = c.in_ok-names.ensures.known ∙ ap (λ l. known (map decl_of l)) c.deref-2.ensures.value in
    let h = c.in_ok-names.ensures.holds ∙ ap (λ l. record_holds (known (map decl_of l)) (suc (length l))) c.deref-2.ensures.value in
    let u = c.in_ok-declarations.field-0 in
    let v = c.in_ok-item.field-0 in
    let r = c.sizes.result in
    let before = decls_by (setting_of (map decl_of ds)) (setting_by n) ds c.deref-4.result.now (Ok u) c.deref-4.ensures.value (setting_all n ds k h) c.in_ok-declarations.ensures in
    let main = c.unless.ensures ∙ ap (λ b. unless b NoMain) (c.is_main.ensures ∙ ap is_main (c.find.ensures ∙ ap (λ f. f (codes "main")) k)) in
    says_next (decls_refusal (setting_of (map decl_of ds)) [] (map decl_of ds)) _ r before
    (says_next (item c.args.program.now.end (unless (is_main (known (map decl_of ds) (codes "main"))) NoMain)) _ r (says_at c.args.program.now.end _ _ (Ok v) main c.in_ok-item.ensures)
    (large_by _ ds c.deref-5.result.now r c.deref-5.ensures.value c.sizes.ensures))
