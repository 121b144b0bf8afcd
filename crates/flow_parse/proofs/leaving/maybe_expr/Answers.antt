use Rattle.std.proofs.Common.{refl}
use Rattle.std.proofs.lemmas.Result.{err_from_is_err_and}
use Rattle.flow_tree.specs.declared.token.Token.TheVariants as token
use Rattle.flow_tree.specs.declared.token.Sign.TheVariants as sign
use Rattle.flow_parse.proofs.Looking.{not_true}
use Rattle.flow_parse.proofs.Leaves.{then_reads, done, fails, first_fails, tok_reads}
use Rattle.flow_parse.proofs.Stmts.{no_expr_left, some_expr_left, value_semicolon}
use Rattle.flow_parse.proofs.leaving.maybe_expr.Goals as goal

pub returns-then-is_sign-clause-reads : goal.returns-then-is_sign-clause-reads
returns-then-is_sign-clause-reads c = λ limits.
    let t = c.args.tokens.now in
    let e = c.if-is_sign.ensures.sign.0 refl in
    done limits t.spots.items (no_expr_left limits t c.args.at c.args.depth c.requires.within e) (tok_reads limits t c.args.at (token.Sign sign.Semicolon) e)

pub returns-in_err-expr-clause-reads : goal.returns-in_err-expr-clause-reads
returns-in_err-expr-clause-reads c = λ limits.
    let t = c.args.tokens.now in
    let l = some_expr_left limits t c.args.at c.args.depth c.requires.within (λ e. not_true (c.if-is_sign.ensures.sign.1 e)) in
    let p = err_from_is_err_and c.from_residual.result c.from_residual.ensures.1 in
    rw (p.1, p.2) (first_fails limits t (value_semicolon c.args.depth) l c.in_err-expr.field-0.0 (c.in_err-expr.ensures.reads limits))

pub returns-in_err-to-clause-reads : goal.returns-in_err-to-clause-reads
returns-in_err-to-clause-reads c = λ limits.
    let t = c.args.tokens.now in
    let l = then_reads limits t.spots.items (value_semicolon c.args.depth) (some_expr_left limits t c.args.at c.args.depth c.requires.within (λ e. not_true (c.if-is_sign.ensures.sign.1 e)))
    (c.in_ok-expr.ensures.reads limits) in
    let p = err_from_is_err_and c.from_residual-in_err-to.result c.from_residual-in_err-to.ensures.1 in
    rw (p.1, p.2) (fails limits t l c.in_err-to.field-0.0 (c.in_err-to.ensures.reads limits))

pub returns-clause-reads : goal.returns-clause-reads
returns-clause-reads c = λ limits.
    let t = c.args.tokens.now in
    let l = then_reads limits t.spots.items (value_semicolon c.args.depth) (some_expr_left limits t c.args.at c.args.depth c.requires.within (λ e. not_true (c.if-is_sign.ensures.sign.1 e)))
    (c.in_ok-expr.ensures.reads limits) in
    done limits t.spots.items l (c.in_ok-to.ensures.reads limits)
