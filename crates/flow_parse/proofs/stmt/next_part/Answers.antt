use Rattle.std.proofs.Common.{refl, sym, subst}
use Rattle.std.proofs.lemmas.Result.{err_from_is_err_and}
use Rattle.flow_tree.specs.declared.token.Token.TheVariants as token
use Rattle.flow_tree.specs.declared.token.Sign.TheVariants as sign
use Rattle.flow_tree.specs.Body.{End}
use Rattle.flow_tree.specs.declared.fault.Rule.TheVariants as rule
use Rattle.flow_tree.specs.declared.fault.SourceFault.TheVariants.{Refused}
use Rattle.flow_tree.specs.GrammarAnswer.{place_at}
use Rattle.flow_tree.specs.StmtView.{stmt_of}
use Rattle.flow_tree.specs.GrammarStmt.{one_statement}
use Rattle.flow_parse.specs.Follow.{ExprEnds}
use Rattle.flow_parse.specs.Reading.{Any, Reads}
use Rattle.flow_parse.specs.Parts.{Assignment, NextPart}
use Rattle.flow_parse.specs.Views.{counts_of}
use Rattle.flow_parse.proofs.Looking.{not_true}
use Rattle.flow_parse.proofs.Leaves.{then_reads, done, fails, first_fails, tok_reads}
use Rattle.flow_parse.proofs.Deeper.{begun_reads, begun_fails}
use Rattle.flow_parse.proofs.Stmts.{no_next, next_left, step_close}
use Rattle.flow_parse.proofs.StmtOpens.{step_none, step_beyond}
use Rattle.flow_parse.proofs.stmt.next_part.Goals as goal

pub returns-then-is_sign-clause-reads : goal.returns-then-is_sign-clause-reads
returns-then-is_sign-clause-reads c =
    let t = c.args.tokens.now in
    let e = c.if-is_sign.ensures.sign.0 refl in
    done c.args.limits t.spots.items (no_next c.args.limits t c.args.at c.args.depth (counts_of c.args.counts) c.requires.within e) (tok_reads c.args.limits t c.args.at (token.Sign sign.CloseRound) e)

pub returns-then-not-is_name-clause-reads : goal.returns-then-not-is_name-clause-reads
returns-then-not-is_name-clause-reads c =
    let t = c.args.tokens.now in
    let k = counts_of c.args.counts in
    let l = next_left c.args.limits t c.args.at c.args.depth k c.requires.within (λ e. not_true (c.if-is_sign.ensures.sign.1 e)) in
    rw c.refused.ensures (first_fails c.args.limits t step_close l (Refused (rule.S 5) (place_at t c.args.at))
    (step_none c.args.limits t c.args.at c.args.depth k (λ e. not_true (c.if-not-is_name.ensures.name.1 e))))

pub returns-in_err-counts-clause-reads : goal.returns-in_err-counts-clause-reads
returns-in_err-counts-clause-reads c =
    let t = c.args.tokens.now in
    let k = counts_of c.args.counts in
    let l = next_left c.args.limits t c.args.at c.args.depth k c.requires.within (λ e. not_true (c.if-is_sign.ensures.sign.1 e)) in
    let b = step_beyond c.args.limits t c.args.at c.args.depth k c.if-not-is_name.ensures.within (c.if-not-is_name.ensures.name.0 refl) c.in_err-counts.field-0.0 c.in_err-counts.ensures.beyond in
    let p = err_from_is_err_and c.from_residual.result c.from_residual.ensures.1 in
    rw (p.1, p.2) (first_fails c.args.limits t step_close l c.in_err-counts.field-0.0 b)

pub returns-in_err-stmt-clause-reads : goal.returns-in_err-stmt-clause-reads
returns-in_err-stmt-clause-reads c =
    let t = c.args.tokens.now in
    let k = counts_of c.args.counts in
    let d = c.args.depth in
    let l = next_left c.args.limits t c.args.at d k c.requires.within (λ e. not_true (c.if-is_sign.ensures.sign.1 e)) in
    let b = begun_fails c.args.limits (Assignment d) ExprEnds t c.args.at k d c.requires.within c.in_ok-counts.ensures.within.1 c.in_ok-counts.ensures.within.0 c.in_err-stmt.field-0.0
    (c.in_err-stmt.ensures.reads c.args.limits) in
    let p = err_from_is_err_and c.from_residual-in_err-stmt.result c.from_residual-in_err-stmt.ensures.1 in
    rw (p.1, p.2) (first_fails c.args.limits t step_close l c.in_err-stmt.field-0.0 b)

pub returns-in_err-to-clause-reads : goal.returns-in_err-to-clause-reads
returns-in_err-to-clause-reads c =
    let t = c.args.tokens.now in
    let k = counts_of c.args.counts in
    let d = c.args.depth in
    let b = begun_reads c.args.limits (Assignment d) ExprEnds t c.args.at k d c.requires.within c.in_ok-counts.ensures.within.1 c.in_ok-counts.ensures.within.0
    (stmt_of c.in_ok-stmt.stmt End) c.in_ok-stmt.at (c.in_ok-stmt.ensures.reads c.args.limits) in
    let l = then_reads c.args.limits t.spots.items step_close (next_left c.args.limits t c.args.at d k c.requires.within (λ e. not_true (c.if-is_sign.ensures.sign.1 e))) b in
    let p = err_from_is_err_and c.from_residual-in_err-to.result c.from_residual-in_err-to.ensures.1 in
    rw (p.1, p.2) (fails c.args.limits t l c.in_err-to.field-0.0 (c.in_err-to.ensures.reads c.args.limits))

pub returns-clause-reads : goal.returns-clause-reads
returns-clause-reads c =
    let t = c.args.tokens.now in
    let k = counts_of c.args.counts in
    let d = c.args.depth in
    let b = begun_reads c.args.limits (Assignment d) ExprEnds t c.args.at k d c.requires.within c.in_ok-counts.ensures.within.1 c.in_ok-counts.ensures.within.0
    (stmt_of c.in_ok-stmt.stmt End) c.in_ok-stmt.at (c.in_ok-stmt.ensures.reads c.args.limits) in
    let l = then_reads c.args.limits t.spots.items step_close (next_left c.args.limits t c.args.at d k c.requires.within (λ e. not_true (c.if-is_sign.ensures.sign.1 e))) b in
    let x = done c.args.limits t.spots.items l (c.in_ok-to.ensures.reads c.args.limits) in
    let y = subst (λ s. Reads c.args.limits (NextPart d k) Any t.spots.items c.args.at (stmt_of s End, one_statement k) c.in_ok-to.to) (sym c.in_ok-part.ensures.is) x in
    subst (λ j. Reads c.args.limits (NextPart d k) Any t.spots.items c.args.at (stmt_of c.in_ok-part.part.value End, j) c.in_ok-to.to) (sym c.in_ok-counts.ensures.one) y
