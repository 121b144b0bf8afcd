use Rattle.std.proofs.Common.{refl, sym, subst}
use Rattle.std.proofs.lemmas.Result.{err_from_is_err_and}
use Rattle.flow_tree.specs.declared.token.Token.TheVariants as token
use Rattle.flow_tree.specs.declared.token.Sign.TheVariants as sign
use Rattle.flow_tree.specs.Body.{End}
use Rattle.flow_tree.specs.declared.fault.Rule.TheVariants as rule
use Rattle.flow_tree.specs.declared.fault.SourceFault.TheVariants.{Refused}
use Rattle.flow_tree.specs.GrammarAnswer.{place_at}
use Rattle.flow_tree.specs.StmtView.{stmt_of}
use Rattle.flow_tree.specs.GrammarStmt.{one_statement}
use Rattle.flow_parse.specs.Follow.{Before}
use Rattle.flow_parse.specs.Reading.{Any, Reads}
use Rattle.flow_parse.specs.Parts.{Init, StartPart}
use Rattle.flow_parse.specs.Views.{counts_of, stmt_out}
use Rattle.flow_parse.proofs.Looking.{not_true}
use Rattle.flow_parse.proofs.Leaves.{then_reads, done, fails, first_fails, tok_reads, moved}
use Rattle.flow_parse.proofs.Deeper.{moved_fails, begun_reads, begun_fails}
use Rattle.flow_parse.proofs.Stmts.{no_start, start_left, init_semicolon}
use Rattle.flow_parse.proofs.StmtOpens.{init_none, init_beyond}
use Rattle.flow_parse.proofs.stmt.start_part.Goals as goal

pub returns-then-is_sign-clause-reads : goal.returns-then-is_sign-clause-reads
returns-then-is_sign-clause-reads c =
    let t = c.args.tokens.now in
    let e = c.if-is_sign.ensures.sign.0 refl in
    done c.args.around.limits t.spots.items (no_start c.args.around.limits t c.args.at c.args.around.routine c.args.around.depth (counts_of c.args.around.counts) c.requires.within e)
    (tok_reads c.args.around.limits t c.args.at (token.Sign sign.Semicolon) e)

pub returns-then-not-begins_init-clause-reads : goal.returns-then-not-begins_init-clause-reads
returns-then-not-begins_init-clause-reads c =
    let t = c.args.tokens.now in
    let k = counts_of c.args.around.counts in
    let a = c.args.around.routine in
    let d = c.args.around.depth in
    let l = start_left c.args.around.limits t c.args.at a d k c.requires.within (λ e. not_true (c.if-is_sign.ensures.sign.1 e)) in
    rw c.refused.ensures (first_fails c.args.around.limits t init_semicolon l (Refused (rule.S 5) (place_at t c.args.at))
    (init_none c.args.around.limits t c.args.at a d k (λ e. not_true (c.if-not-begins_init.ensures.begins.1 e))))

pub returns-in_err-counts-clause-reads : goal.returns-in_err-counts-clause-reads
returns-in_err-counts-clause-reads c =
    let t = c.args.tokens.now in
    let k = counts_of c.args.around.counts in
    let a = c.args.around.routine in
    let d = c.args.around.depth in
    let l = start_left c.args.around.limits t c.args.at a d k c.requires.within (λ e. not_true (c.if-is_sign.ensures.sign.1 e)) in
    let b = init_beyond c.args.around.limits t c.args.at a d k c.if-not-begins_init.ensures.within (c.if-not-begins_init.ensures.begins.0 refl) c.in_err-counts.field-0.0 c.in_err-counts.ensures.beyond
    in
    let p = err_from_is_err_and c.from_residual.result c.from_residual.ensures.1 in
    rw (p.1, p.2) (first_fails c.args.around.limits t init_semicolon l c.in_err-counts.field-0.0 b)

pub returns-in_err-read-clause-reads : goal.returns-in_err-read-clause-reads
returns-in_err-read-clause-reads c =
    let t = c.args.tokens.now in
    let k = counts_of c.args.around.counts in
    let a = c.args.around.routine in
    let d = c.args.around.depth in
    let l = start_left c.args.around.limits t c.args.at a d k c.requires.within (λ e. not_true (c.if-is_sign.ensures.sign.1 e)) in
    let e = c.in_err-read.field-0.0 in
    let i = moved_fails c.args.around.limits (Init a d) (Before (token.Sign sign.Semicolon)) t c.args.at e c.in_ok-counts.ensures.one c.in_err-read.ensures.reads in
    let b = begun_fails c.args.around.limits (Init a d (one_statement k)) (Before (token.Sign sign.Semicolon)) t c.args.at k d c.requires.within c.in_ok-counts.ensures.within.1
    c.in_ok-counts.ensures.within.0 e i in
    let p = err_from_is_err_and c.from_residual-in_err-read.result c.from_residual-in_err-read.ensures.1 in
    rw (p.1, p.2) (first_fails c.args.around.limits t init_semicolon l e b)

pub returns-in_err-to-clause-reads : goal.returns-in_err-to-clause-reads
returns-in_err-to-clause-reads c =
    let t = c.args.tokens.now in
    let k = counts_of c.args.around.counts in
    let a = c.args.around.routine in
    let d = c.args.around.depth in
    let l = start_left c.args.around.limits t c.args.at a d k c.requires.within (λ e. not_true (c.if-is_sign.ensures.sign.1 e)) in
    let b = begun_reads c.args.around.limits (Init a d (one_statement k)) (Before (token.Sign sign.Semicolon)) t c.args.at k d c.requires.within c.in_ok-counts.ensures.within.1
    c.in_ok-counts.ensures.within.0 (stmt_out c.in_ok-read.read) c.in_ok-read.read.to (moved c.args.around.limits (Init a d) c.in_ok-counts.ensures.one c.in_ok-read.ensures.reads) in
    let m = then_reads c.args.around.limits t.spots.items init_semicolon l b in
    let p = err_from_is_err_and c.from_residual-in_err-to.result c.from_residual-in_err-to.ensures.1 in
    rw (p.1, p.2) (fails c.args.around.limits t m c.in_err-to.field-0.0 (c.in_err-to.ensures.reads c.args.around.limits))

pub returns-clause-reads : goal.returns-clause-reads
returns-clause-reads c =
    let t = c.args.tokens.now in
    let k = counts_of c.args.around.counts in
    let a = c.args.around.routine in
    let d = c.args.around.depth in
    let l = start_left c.args.around.limits t c.args.at a d k c.requires.within (λ e. not_true (c.if-is_sign.ensures.sign.1 e)) in
    let b = begun_reads c.args.around.limits (Init a d (one_statement k)) (Before (token.Sign sign.Semicolon)) t c.args.at k d c.requires.within c.in_ok-counts.ensures.within.1
    c.in_ok-counts.ensures.within.0 (stmt_out c.in_ok-read.read) c.in_ok-read.read.to (moved c.args.around.limits (Init a d) c.in_ok-counts.ensures.one c.in_ok-read.ensures.reads) in
    let m = then_reads c.args.around.limits t.spots.items init_semicolon l b in
    subst (λ s. Reads c.args.around.limits (StartPart a d k) Any t.spots.items c.args.at (stmt_of s End, counts_of c.in_ok-read.read.counts) c.in_ok-to.to) (sym c.in_ok-part.ensures.is)
    (done c.args.around.limits t.spots.items m (c.in_ok-to.ensures.reads c.args.around.limits))
