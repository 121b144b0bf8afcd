use Rattle.std.proofs.lemmas.Result.{err_from_is_err_and}
use Rattle.std.proofs.Common.{arith, refl, sym, ap, subst, ◌∙◌, ◌++◌, ◌∷◌, [], ◌+◌, suc, ◌≡◌, length, length-append}
use Rattle.flow_tree.specs.declared.token.Token.TheVariants as token
use Rattle.flow_tree.specs.declared.token.Sign.TheVariants as sign
use Rattle.flow_tree.specs.DeclView.{params_of}
use Rattle.flow_parse.specs.Reading.{Any, Reads}
use Rattle.flow_parse.specs.Parts.{Params}
use Rattle.flow_parse.proofs.Leaves.{then_reads, fails, first_fails, done, tok_reads}
use Rattle.flow_parse.proofs.Decls.{params_link, more_params_link, next_param_link, params_left, more_params_left, end_params_left, no_params_left}
use Rattle.flow_parse.proofs.Looking.{not_true}
use Rattle.flow_parse.proofs.DeclLoops.{params_init, params_step, params_done}
use Rattle.flow_parse.proofs.decl.params.Goals as goal

pub returns-then-is_sign-clause-reads : goal.returns-then-is_sign-clause-reads
returns-then-is_sign-clause-reads c =
    let t = c.args.tokens.now in
    let k = tok_reads c.args.limits t c.args.at (token.Sign sign.CloseRound) (c.if-is_sign.ensures.sign.0 refl) in
    subst (λ xs. Reads c.args.limits Params Any t.spots.items c.args.at (params_of xs) (c.args.at + 1)) (sym c.new-params.ensures.items)
    (done c.args.limits t.spots.items (no_params_left c.args.limits t c.args.at c.requires.within (c.if-is_sign.ensures.sign.0 refl)) k)

pub items-init : goal.items-init
items-init c =
    let t = c.args.tokens.now in
    let q = c.in_ok-push.ensures.items ∙ ap (λ z. z ++ c.in_ok-first.first ∷ []) c.new-params.ensures.items in
    let l = params_init c.args.limits t c.args.at c.in_ok-first.at c.push.new.self.items c.in_ok-first.first c.requires.within
    (λ x. not_true (c.if-is_sign.ensures.sign.1 x)) q c.in_ok-first.ensures.reads in
    let n = ap length q in
    (c.in_ok-first.ensures.moves.0, c.in_ok-first.ensures.moves.1, omega (arith, n), omega (arith, c.in_ok-first.ensures.few), l)

pub items-preserved : goal.items-preserved
items-preserved c =
    let t = c.args.tokens.now in
    let s = t.spots.items in
    let i = c.items.invariant in
    let n = c.items.before + 1 in
    let e : n + 1 ≡ suc n = omega arith in
    let k = tok_reads c.args.limits t c.items.at (token.Sign sign.Comma) (c.items-test.ensures.sign.0 refl) in
    let q = c.in_ok-push-2.ensures.items in
    let m = ap length q ∙ length-append c.items.params.items (c.in_ok-next.next ∷ []) in
    let l = params_step c.args.limits s c.args.at c.items.at c.in_ok-next.to n (n + 1) _ c.items.params.items c.push-in-items.new.self.items c.in_ok-next.next q e
    (c.items-test.ensures.sign.0 refl) i.4 k c.in_ok-next.ensures.reads in
    (omega (arith, i.0, c.in_ok-next.ensures.moves.0), c.in_ok-next.ensures.moves.1, omega (arith, m, i.2), omega (arith, m, i.2, c.in_ok-next.ensures.few), l)

pub returns-clause-reads : goal.returns-clause-reads
returns-clause-reads c =
    params_done c.args.limits c.args.tokens.now.spots.items c.args.at c.items.at c.in_ok-to.to (c.items.before + 1) _ c.items.params.items
    (λ x. not_true (c.items-test.ensures.sign.1 x)) c.items.invariant.4 (c.in_ok-to.ensures.reads c.args.limits)

pub returns-in_err-first-clause-reads : goal.returns-in_err-first-clause-reads
returns-in_err-first-clause-reads c =
    let t = c.args.tokens.now in
    let p = err_from_is_err_and c.from_residual.result c.from_residual.ensures.1 in
    rw (p.1, p.2) (first_fails c.args.limits t params_link (params_left c.args.limits t c.args.at c.requires.within (λ x. not_true (c.if-is_sign.ensures.sign.1 x))) _ c.in_err-first.ensures.reads)

pub returns-in_err-next-clause-reads : goal.returns-in_err-next-clause-reads
returns-in_err-next-clause-reads c =
    let t = c.args.tokens.now in
    let n = c.items.before + 1 in
    let e = c.items-test.ensures.sign.0 refl in
    let p = err_from_is_err_and c.from_residual-in_err-next.result c.from_residual-in_err-next.ensures.1 in
    rw (p.1, p.2) (first_fails c.args.limits t (next_param_link n)
    (then_reads c.args.limits t.spots.items (more_params_link n) (more_params_left c.args.limits t.spots.items e c.items.invariant.4)
    (tok_reads c.args.limits t c.items.at (token.Sign sign.Comma) e)) _ c.in_err-next.ensures.reads)

pub returns-in_err-to-clause-reads : goal.returns-in_err-to-clause-reads
returns-in_err-to-clause-reads c =
    let t = c.args.tokens.now in
    let p = err_from_is_err_and c.from_residual-in_err-to.result c.from_residual-in_err-to.ensures.1 in
    rw (p.1, p.2) (fails c.args.limits t (end_params_left c.args.limits t.spots.items (λ x. not_true (c.items-test.ensures.sign.1 x)) c.items.invariant.4) _ (c.in_err-to.ensures.reads c.args.limits))
