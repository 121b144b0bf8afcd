use Rattle.std.proofs.lemmas.Result.{err_from_is_err_and}
use Rattle.std.proofs.Common.{arith, refl, ap, ◌∙◌, ◌++◌, ◌∷◌, [], ◌+◌, suc, ◌≡◌}
use Rattle.flow_tree.specs.declared.token.Token.TheVariants as token
use Rattle.flow_tree.specs.declared.token.Sign.TheVariants as sign
use Rattle.flow_parse.proofs.Leaves.{then_reads, first_fails, tok_reads}
use Rattle.flow_parse.proofs.Decls.{field_link, semicolon_link, fields_left, more_fields_left}
use Rattle.flow_parse.proofs.Looking.{not_true}
use Rattle.flow_parse.proofs.DeclLoops.{fields_init, fields_step, fields_done}
use Rattle.flow_parse.proofs.decl.fields.Goals as goal

pub items-init : goal.items-init
items-init c =
    let t = c.args.tokens.now in
    let q = c.in_ok-push.ensures.items ∙ ap (λ z. z ++ c.in_ok-first.first ∷ []) c.new-fields.ensures.items in
    let l = fields_init c.args.limits t c.args.at c.in_ok-first.at c.in_ok-at.at _ c.push.new.self.items c.in_ok-first.first c.requires.within q c.in_ok-first.ensures.reads
    (c.in_ok-at.ensures.reads c.args.limits) in
    (omega (arith, c.in_ok-first.ensures.moves.0, c.in_ok-at.ensures.moves.0), c.in_ok-at.ensures.moves.1, omega (arith, c.in_ok-first.ensures.few), l)

pub items-preserved : goal.items-preserved
items-preserved c =
    let s = c.args.tokens.now.spots.items in
    let i = c.items.invariant in
    let n = c.items.before + 1 in
    let e : n + 1 ≡ suc n = omega arith in
    let l = fields_step c.args.limits s c.args.at c.items.at c.in_ok-field.to c.in_ok-at-2.at n (n + 1) _ c.items.fields.items c.push-in-items.new.self.items c.in_ok-field.field
    c.in_ok-push-2.ensures.items e (λ x. not_true (c.items-test.ensures.sign.1 x)) i.3 c.in_ok-field.ensures.reads (c.in_ok-at-2.ensures.reads c.args.limits) in
    (omega (arith, i.0, c.in_ok-field.ensures.moves.0, c.in_ok-at-2.ensures.moves.0), c.in_ok-at-2.ensures.moves.1, omega (arith, c.in_ok-field.ensures.few), l)

pub returns-clause-reads : goal.returns-clause-reads
returns-clause-reads c =
    let t = c.args.tokens.now in
    let k = tok_reads c.args.limits t c.items.at (token.Sign sign.CloseCurly) (c.items-test.ensures.sign.0 refl) in
    fields_done c.args.limits t.spots.items c.args.at c.items.at (c.items.at + 1) (c.items.before + 1) _ c.items.fields.items (c.items-test.ensures.sign.0 refl) c.items.invariant.3 k

pub returns-in_err-first-clause-reads : goal.returns-in_err-first-clause-reads
returns-in_err-first-clause-reads c =
    let t = c.args.tokens.now in
    let p = err_from_is_err_and c.from_residual.result c.from_residual.ensures.1 in
    rw (p.1, p.2) (first_fails c.args.limits t (field_link 1) (fields_left c.args.limits t c.args.at c.requires.within) _ c.in_err-first.ensures.reads)

pub returns-in_err-at-clause-reads : goal.returns-in_err-at-clause-reads
returns-in_err-at-clause-reads c =
    let t = c.args.tokens.now in
    let p = err_from_is_err_and c.from_residual-in_err-at.result c.from_residual-in_err-at.ensures.1 in
    rw (p.1, p.2) (first_fails c.args.limits t (semicolon_link 2) (then_reads c.args.limits t.spots.items (field_link 1)
    (fields_left c.args.limits t c.args.at c.requires.within) c.in_ok-first.ensures.reads) _ (c.in_err-at.ensures.reads c.args.limits))

pub returns-in_err-field-clause-reads : goal.returns-in_err-field-clause-reads
returns-in_err-field-clause-reads c =
    let t = c.args.tokens.now in
    let l = (more_fields_left c.args.limits t.spots.items (λ x. not_true (c.items-test.ensures.sign.1 x)) c.items.invariant.3) in
    let p = err_from_is_err_and c.from_residual-in_err-field.result c.from_residual-in_err-field.ensures.1 in
    rw (p.1, p.2) (first_fails c.args.limits t (field_link (c.items.before + 1)) l _ c.in_err-field.ensures.reads)

pub returns-in_err-at-2-clause-reads : goal.returns-in_err-at-2-clause-reads
returns-in_err-at-2-clause-reads c =
    let t = c.args.tokens.now in
    let l = (more_fields_left c.args.limits t.spots.items (λ x. not_true (c.items-test.ensures.sign.1 x)) c.items.invariant.3) in
    let p = err_from_is_err_and c.from_residual-in_err-at-2.result c.from_residual-in_err-at-2.ensures.1 in
    rw (p.1, p.2) (first_fails c.args.limits t (semicolon_link (suc (c.items.before + 1))) (then_reads c.args.limits t.spots.items (field_link (c.items.before + 1)) l c.in_ok-field.ensures.reads) _
    (c.in_err-at-2.ensures.reads c.args.limits))
