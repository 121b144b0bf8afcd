use Rattle.std.proofs.Common.{arith, refl, sym, ap, subst, ◌∷◌, [], ◌+◌, suc, ◌≡◌}
use Rattle.std.proofs.lemmas.Result.{err_from_is_err_and}
use Rattle.flow_tree.specs.declared.fault.Rule.TheVariants as rule
use Rattle.flow_tree.specs.declared.fault.SourceFault.TheVariants.{Refused}
use Rattle.flow_tree.specs.declared.token.Token.TheVariants as token
use Rattle.flow_tree.specs.declared.token.Word.TheVariants as word
use Rattle.flow_tree.specs.declared.token.Sign.TheVariants as sign
use Rattle.flow_tree.specs.Body.{End}
use Rattle.flow_tree.specs.StmtView.{stmt_of, body_of}
use Rattle.flow_tree.specs.GrammarToken.{Node, Branch}
use Rattle.flow_tree.specs.GrammarAnswer.{place_at}
use Rattle.flow_tree.specs.GrammarStmt.{one_statement}
use Rattle.flow_parse.specs.Openers.{StmtToken}
use Rattle.flow_parse.specs.Reading.{token_at, Tok, Any, Reads, Answer}
use Rattle.flow_parse.specs.Parts.{NoElse, Test, MaybeExpr, StartPart, NextPart, Placed, Plain, One, BodyPart, Closing, Block, AllWhens}
use Rattle.flow_parse.specs.Views.{counts_of, stmt_out, body_out, block_out, when_out}
use Rattle.flow_parse.proofs.Deeper.{moved_fails, deeper_fails, begun_reads, begun_fails}
use Rattle.flow_parse.proofs.Leaves.{nothing, narrow, means, then_reads, done, fails, first_fails, tok_reads, opening_reads, deeper, moved, placed_reads, placed_fails, answer_become, answer_begun, answer_done, become}
use Rattle.flow_parse.proofs.Looking.{not_true}
use Rattle.flow_parse.proofs.Openings.{opening_beyond}
use Rattle.flow_parse.proofs.StmtLoops.{one_pushed, closing_before, stmts_step, stmts_done, whens_init, whens_step, whens_done}
use Rattle.flow_parse.proofs.Stmts.{body_link, test_body, while_word, then_else, if_test, if_word, next_body, test_next, block_open, stmt_more, caught_link, choose_open, choose_word, when_more, start_test, for_open, for_word, try_inner, try_word, when_close, when_waiting, when_open, when_word, if_left, while_left, loop_left, for_left, try_left, choose_left, whens_left, when_left, one_plain, one_block, body_plain, body_block, block_turns, else_none, no_else, else_left, stmt_left, more_left, end_whens}
use Rattle.flow_parse.proofs.StmtOpens.{one_none, one_beyond, body_none, body_beyond, block_starts, opening_none, no_keyword, simple_turns}
use Rattle.flow_parse.proofs.StmtBacks.{ElsePart, ElseFollow}
use Rattle.flow_parse.proofs.stmt.+stmt.Goals as goal
use Rattle.flow_parse.proofs.stmt.+stmt.Goals.{if_stmt-then-then-via-then-then, if_stmt-then-then-via-else-then+then-not-is_word}
use Rattle.std.specs.declared.option.Option.TheVariants.{None}

pub block-returns-in_err-at-clause-reads : goal.block-returns-in_err-at-clause-reads
block-returns-in_err-at-clause-reads h c =
    let t = c.args.tokens.now in
    let s = t.spots.items in
    let a = c.args.around.routine in
    let d = c.args.around.depth in
    let k = counts_of c.args.around.counts in
    let l = narrow c.args.around.limits s refl (block_turns a d k (token_at s c.args.at)) (nothing c.args.around.limits s (Block a d k) Any c.args.at c.requires.within) in
    let e = c.in_err-at.field-0.0 in
    let p = err_from_is_err_and c.from_residual.result c.from_residual.ensures.1 in
    rw (p.1, p.2) (first_fails c.args.around.limits t (block_open a d k) l e (c.in_err-at.ensures.reads c.args.around.limits))

pub block-returns-clause-reads : goal.block-returns-clause-reads
block-returns-clause-reads h c =
    let t = c.args.tokens.now in
    let s = t.spots.items in
    let a = c.args.around.routine in
    let d = c.args.around.depth in
    let k = counts_of c.args.around.counts in
    let l = narrow c.args.around.limits s refl (block_turns a d k (token_at s c.args.at)) (nothing c.args.around.limits s (Block a d k) Any c.args.at c.requires.within) in
    answer_done c.args.around.limits block_out (λ r. r.to) t (then_reads c.args.around.limits s (block_open a d k) l (c.in_ok-at.ensures.reads c.args.around.limits)) c.stmts.result
    c.stmts.ensures.reads

pub body-returns-in_err-read-clause-reads : goal.body-returns-in_err-read-clause-reads
body-returns-in_err-read-clause-reads h c =
    let t = c.args.tokens.now in
    let s = t.spots.items in
    let a = c.args.around.routine in
    let d = c.args.around.depth in
    let k = counts_of c.args.around.counts in
    let l = narrow c.args.around.limits s (c.if-is_sign.ensures.sign.0 refl) (body_block a d k) (nothing c.args.around.limits s (BodyPart a d k) NoElse c.args.at c.requires.within) in
    let e = c.in_err-read.field-0.0 in
    let p = err_from_is_err_and c.from_residual.result c.from_residual.ensures.1 in
    rw (p.1, p.2) (fails c.args.around.limits t l e c.in_err-read.ensures.reads)

pub body-returns-then-is_sign-clause-reads : goal.body-returns-then-is_sign-clause-reads
body-returns-then-is_sign-clause-reads h c =
    let t = c.args.tokens.now in
    let s = t.spots.items in
    let a = c.args.around.routine in
    let d = c.args.around.depth in
    let k = counts_of c.args.around.counts in
    let l = narrow c.args.around.limits s (c.if-is_sign.ensures.sign.0 refl) (body_block a d k) (nothing c.args.around.limits s (BodyPart a d k) NoElse c.args.at c.requires.within) in
    done c.args.around.limits s l c.in_ok-read.ensures.reads

pub body-returns-then-not-begins_stmt-clause-reads : goal.body-returns-then-not-begins_stmt-clause-reads
body-returns-then-not-begins_stmt-clause-reads h c =
    let t = c.args.tokens.now in
    let a = c.args.around.routine in
    let d = c.args.around.depth in
    let k = counts_of c.args.around.counts in
    rw c.refused.ensures (body_none c.args.around.limits t c.args.at a d k (λ e. not_true (c.if-not-begins_stmt.ensures.begins.1 e)))

pub body-returns-in_err-counts-clause-reads : goal.body-returns-in_err-counts-clause-reads
body-returns-in_err-counts-clause-reads h c =
    let t = c.args.tokens.now in
    let a = c.args.around.routine in
    let d = c.args.around.depth in
    let k = counts_of c.args.around.counts in
    let e = c.in_err-counts.field-0.0 in
    let p = err_from_is_err_and c.from_residual-in_err-counts.result c.from_residual-in_err-counts.ensures.1 in
    rw (p.1, p.2) (body_beyond c.args.around.limits t c.args.at a d k c.if-not-begins_stmt.ensures.within (c.if-not-begins_stmt.ensures.begins.0 refl)
    (λ e. not_true (c.if-is_sign.ensures.sign.1 e)) e c.in_err-counts.ensures.beyond)

pub body-returns-in_err-read-2-clause-reads : goal.body-returns-in_err-read-2-clause-reads
body-returns-in_err-read-2-clause-reads h c =
    let t = c.args.tokens.now in
    let s = t.spots.items in
    let a = c.args.around.routine in
    let d = c.args.around.depth in
    let k = counts_of c.args.around.counts in
    let l = narrow c.args.around.limits s refl (body_plain a d k (token_at s c.args.at) (λ e. not_true (c.if-is_sign.ensures.sign.1 e)))
    (nothing c.args.around.limits s (BodyPart a d k) NoElse c.args.at c.requires.within) in
    let e = c.in_err-read-2.field-0.0 in
    let p = err_from_is_err_and c.from_residual-in_err-read-2.result c.from_residual-in_err-read-2.ensures.1 in
    rw (p.1, p.2) (fails c.args.around.limits t l e (begun_fails c.args.around.limits (Plain a d (one_statement k)) NoElse t c.args.at k d c.requires.within c.in_ok-counts.ensures.within.1
    c.in_ok-counts.ensures.within.0 e (moved_fails c.args.around.limits (Plain a d) NoElse t c.args.at e c.in_ok-counts.ensures.one c.in_err-read-2.ensures.reads)))

pub body-returns-clause-reads : goal.body-returns-clause-reads
body-returns-clause-reads h c =
    let t = c.args.tokens.now in
    let s = t.spots.items in
    let a = c.args.around.routine in
    let d = c.args.around.depth in
    let k = counts_of c.args.around.counts in
    let l = narrow c.args.around.limits s refl (body_plain a d k (token_at s c.args.at) (λ e. not_true (c.if-is_sign.ensures.sign.1 e)))
    (nothing c.args.around.limits s (BodyPart a d k) NoElse c.args.at c.requires.within) in
    let r = moved c.args.around.limits (Plain a d) c.in_ok-counts.ensures.one c.in_ok-read-2.ensures.reads in
    let b = begun_reads c.args.around.limits (Plain a d (one_statement k)) NoElse t c.args.at k d c.requires.within c.in_ok-counts.ensures.within.1 c.in_ok-counts.ensures.within.0
    (stmt_out c.in_ok-read-2.read) c.in_ok-read-2.read.to r in
    let q = one_pushed c.new-body.result.items c.push.new.self.items c.in_ok-read-2.read.stmt c.in_ok-push.ensures.items c.new-body.ensures.items in
    subst (λ xs. Reads c.args.around.limits (BodyPart a d k) NoElse s c.args.at (record { body = body_of xs; counts = counts_of c.in_ok-read-2.read.counts; ends_if = c.in_ok-read-2.read.ends_if })
    c.in_ok-read-2.read.to) (sym q) (done c.args.around.limits s l b)

pub choose-returns-in_err-at-clause-reads : goal.choose-returns-in_err-at-clause-reads
choose-returns-in_err-at-clause-reads h c =
    let t = c.args.tokens.now in
    let s = t.spots.items in
    let a = c.args.around.routine in
    let d = c.args.around.depth in
    let k = counts_of c.args.around.counts in
    let l = then_reads c.args.around.limits s (choose_word a (suc d) k) (choose_left c.args.around.limits t c.args.at a d k c.requires.within c.requires.here)
    (tok_reads c.args.around.limits t c.args.at (token.Word word.Choose) c.requires.here) in
    let e = c.in_err-at.field-0.0 in
    let p = err_from_is_err_and c.from_residual.result c.from_residual.ensures.1 in
    rw (p.1, p.2) (first_fails c.args.around.limits t (choose_open a (suc d) k) l e (c.in_err-at.ensures.reads c.args.around.limits))

pub choose-returns-in_err-read-clause-reads : goal.choose-returns-in_err-read-clause-reads
choose-returns-in_err-read-clause-reads h c =
    let t = c.args.tokens.now in
    let s = t.spots.items in
    let a = c.args.around.routine in
    let d = c.args.around.depth in
    let k = counts_of c.args.around.counts in
    let l = then_reads c.args.around.limits s (choose_word a (suc d) k) (choose_left c.args.around.limits t c.args.at a d k c.requires.within c.requires.here)
    (tok_reads c.args.around.limits t c.args.at (token.Word word.Choose) c.requires.here) in
    let m = then_reads c.args.around.limits s (choose_open a (suc d) k) l (c.in_ok-at.ensures.reads c.args.around.limits) in
    let e = c.in_err-read.field-0.0 in
    let p = err_from_is_err_and c.from_residual-in_err-read.result c.from_residual-in_err-read.ensures.1 in
    rw (p.1, p.2) (fails c.args.around.limits t m e (deeper_fails c.args.around.limits (λ i. AllWhens a i k) Any t c.in_ok-at.at d e c.in_err-read.ensures.reads))

pub choose-returns-clause-reads : goal.choose-returns-clause-reads
choose-returns-clause-reads h c =
    let t = c.args.tokens.now in
    let s = t.spots.items in
    let a = c.args.around.routine in
    let d = c.args.around.depth in
    let k = counts_of c.args.around.counts in
    let l = then_reads c.args.around.limits s (choose_word a (suc d) k) (choose_left c.args.around.limits t c.args.at a d k c.requires.within c.requires.here)
    (tok_reads c.args.around.limits t c.args.at (token.Word word.Choose) c.requires.here) in
    let m = then_reads c.args.around.limits s (choose_open a (suc d) k) l (c.in_ok-at.ensures.reads c.args.around.limits) in
    rw (c.ended.ensures.is, c.choose.ensures.is End, c.place-here.ensures) (done c.args.around.limits s m (deeper c.args.around.limits (λ i. AllWhens a i k) d c.in_ok-read.ensures.reads))

pub for_stmt-returns-in_err-at-clause-reads : goal.for_stmt-returns-in_err-at-clause-reads
for_stmt-returns-in_err-at-clause-reads h c =
    let t = c.args.tokens.now in
    let s = t.spots.items in
    let a = c.args.around.routine in
    let d = c.args.around.depth in
    let k = counts_of c.args.around.counts in
    let l1 = then_reads c.args.around.limits s (for_word a (suc d) k) (for_left c.args.around.limits t c.args.at a d k c.requires.within c.requires.here)
    (tok_reads c.args.around.limits t c.args.at (token.Word word.For) c.requires.here) in
    let e = c.in_err-at.field-0.0 in
    let p = err_from_is_err_and c.from_residual.result c.from_residual.ensures.1 in
    rw (p.1, p.2) (first_fails c.args.around.limits t (for_open a (suc d) k) l1 e (c.in_err-at.ensures.reads c.args.around.limits))

pub for_stmt-returns-in_err-start-clause-reads : goal.for_stmt-returns-in_err-start-clause-reads
for_stmt-returns-in_err-start-clause-reads h c =
    let t = c.args.tokens.now in
    let s = t.spots.items in
    let a = c.args.around.routine in
    let d = c.args.around.depth in
    let k = counts_of c.args.around.counts in
    let l1 = then_reads c.args.around.limits s (for_word a (suc d) k) (for_left c.args.around.limits t c.args.at a d k c.requires.within c.requires.here)
    (tok_reads c.args.around.limits t c.args.at (token.Word word.For) c.requires.here) in
    let l2 = then_reads c.args.around.limits s (for_open a (suc d) k) l1 (c.in_ok-at.ensures.reads c.args.around.limits) in
    let e = c.in_err-start.field-0.0 in
    let p = err_from_is_err_and c.from_residual-in_err-start.result c.from_residual-in_err-start.ensures.1 in
    rw (p.1, p.2) (first_fails c.args.around.limits t (start_test a (suc d) k) l2 e (deeper_fails c.args.around.limits (λ i. StartPart a i k) Any t c.in_ok-at.at d e c.in_err-start.ensures.reads))

pub for_stmt-returns-in_err-test-clause-reads : goal.for_stmt-returns-in_err-test-clause-reads
for_stmt-returns-in_err-test-clause-reads h c =
    let t = c.args.tokens.now in
    let s = t.spots.items in
    let a = c.args.around.routine in
    let d = c.args.around.depth in
    let k = counts_of c.args.around.counts in
    let l1 = then_reads c.args.around.limits s (for_word a (suc d) k) (for_left c.args.around.limits t c.args.at a d k c.requires.within c.requires.here)
    (tok_reads c.args.around.limits t c.args.at (token.Word word.For) c.requires.here) in
    let l2 = then_reads c.args.around.limits s (for_open a (suc d) k) l1 (c.in_ok-at.ensures.reads c.args.around.limits) in
    let l3 = then_reads c.args.around.limits s (start_test a (suc d) k) l2 (deeper c.args.around.limits (λ i. StartPart a i k) d c.in_ok-start.ensures.reads) in
    let k1 = counts_of c.in_ok-start.start.counts in
    let e = c.in_err-test.field-0.0 in
    let p = err_from_is_err_and c.from_residual-in_err-test.result c.from_residual-in_err-test.ensures.1 in
    rw (p.1, p.2) (first_fails c.args.around.limits t (test_next a (suc d) k1) l3 e
    (deeper_fails c.args.around.limits MaybeExpr Any t c.in_ok-start.start.to d e (c.in_err-test.ensures.reads c.args.around.limits)))

pub for_stmt-returns-in_err-next-clause-reads : goal.for_stmt-returns-in_err-next-clause-reads
for_stmt-returns-in_err-next-clause-reads h c =
    let t = c.args.tokens.now in
    let s = t.spots.items in
    let a = c.args.around.routine in
    let d = c.args.around.depth in
    let k = counts_of c.args.around.counts in
    let l1 = then_reads c.args.around.limits s (for_word a (suc d) k) (for_left c.args.around.limits t c.args.at a d k c.requires.within c.requires.here)
    (tok_reads c.args.around.limits t c.args.at (token.Word word.For) c.requires.here) in
    let l2 = then_reads c.args.around.limits s (for_open a (suc d) k) l1 (c.in_ok-at.ensures.reads c.args.around.limits) in
    let l3 = then_reads c.args.around.limits s (start_test a (suc d) k) l2 (deeper c.args.around.limits (λ i. StartPart a i k) d c.in_ok-start.ensures.reads) in
    let k1 = counts_of c.in_ok-start.start.counts in
    let l4 = then_reads c.args.around.limits s (test_next a (suc d) k1) l3 (deeper c.args.around.limits MaybeExpr d (c.in_ok-test.ensures.reads c.args.around.limits)) in
    let e = c.in_err-next.field-0.0 in
    let p = err_from_is_err_and c.from_residual-in_err-next.result c.from_residual-in_err-next.ensures.1 in
    rw (p.1, p.2) (first_fails c.args.around.limits t (next_body a (suc d) k1) l4 e (deeper_fails c.args.around.limits (λ i. NextPart i k1) Any t c.in_ok-test.at d e c.in_err-next.ensures.reads))

pub for_stmt-returns-in_err-read-clause-reads : goal.for_stmt-returns-in_err-read-clause-reads
for_stmt-returns-in_err-read-clause-reads h c =
    let t = c.args.tokens.now in
    let s = t.spots.items in
    let a = c.args.around.routine in
    let d = c.args.around.depth in
    let k = counts_of c.args.around.counts in
    let l1 = then_reads c.args.around.limits s (for_word a (suc d) k) (for_left c.args.around.limits t c.args.at a d k c.requires.within c.requires.here)
    (tok_reads c.args.around.limits t c.args.at (token.Word word.For) c.requires.here) in
    let l2 = then_reads c.args.around.limits s (for_open a (suc d) k) l1 (c.in_ok-at.ensures.reads c.args.around.limits) in
    let l3 = then_reads c.args.around.limits s (start_test a (suc d) k) l2 (deeper c.args.around.limits (λ i. StartPart a i k) d c.in_ok-start.ensures.reads) in
    let k1 = counts_of c.in_ok-start.start.counts in
    let l4 = then_reads c.args.around.limits s (test_next a (suc d) k1) l3 (deeper c.args.around.limits MaybeExpr d (c.in_ok-test.ensures.reads c.args.around.limits)) in
    let l5 = then_reads c.args.around.limits s (next_body a (suc d) k1) l4 (deeper c.args.around.limits (λ i. NextPart i k1) d c.in_ok-next.ensures.reads) in
    let k2 = counts_of c.in_ok-next.next.counts in
    let e = c.in_err-read.field-0.0 in
    let p = err_from_is_err_and c.from_residual-in_err-read.result c.from_residual-in_err-read.ensures.1 in
    rw (p.1, p.2) (fails c.args.around.limits t l5 e (deeper_fails c.args.around.limits (λ i. BodyPart a i k2) NoElse t c.in_ok-next.next.to d e c.in_err-read.ensures.reads))

pub for_stmt-returns-clause-reads : goal.for_stmt-returns-clause-reads
for_stmt-returns-clause-reads h c =
    let t = c.args.tokens.now in
    let s = t.spots.items in
    let a = c.args.around.routine in
    let d = c.args.around.depth in
    let k = counts_of c.args.around.counts in
    let l1 = then_reads c.args.around.limits s (for_word a (suc d) k) (for_left c.args.around.limits t c.args.at a d k c.requires.within c.requires.here)
    (tok_reads c.args.around.limits t c.args.at (token.Word word.For) c.requires.here) in
    let l2 = then_reads c.args.around.limits s (for_open a (suc d) k) l1 (c.in_ok-at.ensures.reads c.args.around.limits) in
    let l3 = then_reads c.args.around.limits s (start_test a (suc d) k) l2 (deeper c.args.around.limits (λ i. StartPart a i k) d c.in_ok-start.ensures.reads) in
    let k1 = counts_of c.in_ok-start.start.counts in
    let l4 = then_reads c.args.around.limits s (test_next a (suc d) k1) l3 (deeper c.args.around.limits MaybeExpr d (c.in_ok-test.ensures.reads c.args.around.limits)) in
    let l5 = then_reads c.args.around.limits s (next_body a (suc d) k1) l4 (deeper c.args.around.limits (λ i. NextPart i k1) d c.in_ok-next.ensures.reads) in
    let k2 = counts_of c.in_ok-next.next.counts in
    rw (c.for_stmt.ensures.is End, c.place-here.ensures) (done c.args.around.limits s l5 (deeper c.args.around.limits (λ i. BodyPart a i k2) d c.in_ok-read.ensures.reads))

pub if_stmt-returns-in_err-test-clause-reads : goal.if_stmt-returns-in_err-test-clause-reads
if_stmt-returns-in_err-test-clause-reads h c =
    let t = c.args.tokens.now in
    let s = t.spots.items in
    let a = c.args.around.routine in
    let d = c.args.around.depth in
    let k = counts_of c.args.around.counts in
    let l1 = then_reads c.args.around.limits s (if_word a (suc d) k) (if_left c.args.around.limits t c.args.at a d k c.requires.within c.requires.here)
    (tok_reads c.args.around.limits t c.args.at (token.Word word.If) c.requires.here) in
    let e = c.in_err-test.field-0.0 in
    let p = err_from_is_err_and c.from_residual.result c.from_residual.ensures.1 in
    rw (p.1, p.2) (first_fails c.args.around.limits t (if_test a (suc d) k) l1 e (deeper_fails c.args.around.limits Test Any t (c.args.at + 1) d e (c.in_err-test.ensures.reads c.args.around.limits)))

pub if_stmt-returns-in_err-then-clause-reads : goal.if_stmt-returns-in_err-then-clause-reads
if_stmt-returns-in_err-then-clause-reads h c =
    let t = c.args.tokens.now in
    let s = t.spots.items in
    let a = c.args.around.routine in
    let d = c.args.around.depth in
    let k = counts_of c.args.around.counts in
    let l1 = then_reads c.args.around.limits s (if_word a (suc d) k) (if_left c.args.around.limits t c.args.at a d k c.requires.within c.requires.here)
    (tok_reads c.args.around.limits t c.args.at (token.Word word.If) c.requires.here) in
    let l2 = then_reads c.args.around.limits s (if_test a (suc d) k) l1 (deeper c.args.around.limits Test d (c.in_ok-test.ensures.reads c.args.around.limits)) in
    let e = c.in_err-then.field-0.0 in
    let p = err_from_is_err_and c.from_residual-in_err-then.result c.from_residual-in_err-then.ensures.1 in
    rw (p.1, p.2) (first_fails c.args.around.limits t (then_else a (suc d) k) l2 e (deeper_fails c.args.around.limits (λ i. BodyPart a i k) NoElse t c.in_ok-test.at d e c.in_err-then.ensures.reads))

pub if_stmt-returns-then-then-clause-reads : goal.if_stmt-returns-then-then-clause-reads
if_stmt-returns-then-then-clause-reads h c =
    let t = c.args.tokens.now in
    let s = t.spots.items in
    let a = c.args.around.routine in
    let d = c.args.around.depth in
    let k = counts_of c.args.around.counts in
    let l1 = then_reads c.args.around.limits s (if_word a (suc d) k) (if_left c.args.around.limits t c.args.at a d k c.requires.within c.requires.here)
    (tok_reads c.args.around.limits t c.args.at (token.Word word.If) c.requires.here) in
    let l2 = then_reads c.args.around.limits s (if_test a (suc d) k) l1 (deeper c.args.around.limits Test d (c.in_ok-test.ensures.reads c.args.around.limits)) in
    let l3 = then_reads c.args.around.limits s (then_else a (suc d) k) l2 (deeper c.args.around.limits (λ i. BodyPart a i k) d c.in_ok-then.ensures.reads) in
    let o = body_out c.in_ok-then.then in
    let b = c.in_ok-then.ensures.moves.1 in
    let x : (Reads c.args.around.limits) (ElsePart a (suc d) o) ElseFollow s c.in_ok-then.then.to None c.in_ok-then.then.to = elim c.then-then.branch [
      | if_stmt-then-then-via-then-then w ↦ (else_none c.args.around.limits) s c.in_ok-then.then.to a (suc d) o b w.if-then.true
      | if_stmt-then-then-via-else-then+then-not-is_word w ↦ (no_else c.args.around.limits) s c.in_ok-then.then.to a (suc d) o b (λ e. not_true (w.if-not-is_word.ensures.word.1 e))
    ] in
    rw (c.if_stmt.ensures.is End, c.place-here.ensures) (done c.args.around.limits s l3 x)

pub if_stmt-returns-in_err-other-clause-reads : goal.if_stmt-returns-in_err-other-clause-reads
if_stmt-returns-in_err-other-clause-reads h c =
    let t = c.args.tokens.now in
    let s = t.spots.items in
    let a = c.args.around.routine in
    let d = c.args.around.depth in
    let k = counts_of c.args.around.counts in
    let l1 = then_reads c.args.around.limits s (if_word a (suc d) k) (if_left c.args.around.limits t c.args.at a d k c.requires.within c.requires.here)
    (tok_reads c.args.around.limits t c.args.at (token.Word word.If) c.requires.here) in
    let l2 = then_reads c.args.around.limits s (if_test a (suc d) k) l1 (deeper c.args.around.limits Test d (c.in_ok-test.ensures.reads c.args.around.limits)) in
    let l3 = then_reads c.args.around.limits s (then_else a (suc d) k) l2 (deeper c.args.around.limits (λ i. BodyPart a i k) d c.in_ok-then.ensures.reads) in
    let o = body_out c.in_ok-then.then in
    let f = c.if-not-is_word.ensures.word.0 refl in
    let l4 = then_reads c.args.around.limits s (body_link a (suc d) o.counts (Tok (token.Word word.Else))) (else_left c.args.around.limits s a (suc d) o f c.if-then.false l3)
    (tok_reads c.args.around.limits t c.in_ok-then.then.to (token.Word word.Else) f) in
    let e = c.in_err-other.field-0.0 in
    let p = err_from_is_err_and c.from_residual-in_err-other.result c.from_residual-in_err-other.ensures.1 in
    rw (p.1, p.2) (fails c.args.around.limits t l4 e (deeper_fails c.args.around.limits (λ i. BodyPart a i o.counts) NoElse t (c.in_ok-then.then.to + 1) d e c.in_err-other.ensures.reads))

pub if_stmt-returns-clause-reads : goal.if_stmt-returns-clause-reads
if_stmt-returns-clause-reads h c =
    let t = c.args.tokens.now in
    let s = t.spots.items in
    let a = c.args.around.routine in
    let d = c.args.around.depth in
    let k = counts_of c.args.around.counts in
    let l1 = then_reads c.args.around.limits s (if_word a (suc d) k) (if_left c.args.around.limits t c.args.at a d k c.requires.within c.requires.here)
    (tok_reads c.args.around.limits t c.args.at (token.Word word.If) c.requires.here) in
    let l2 = then_reads c.args.around.limits s (if_test a (suc d) k) l1 (deeper c.args.around.limits Test d (c.in_ok-test.ensures.reads c.args.around.limits)) in
    let l3 = then_reads c.args.around.limits s (then_else a (suc d) k) l2 (deeper c.args.around.limits (λ i. BodyPart a i k) d c.in_ok-then.ensures.reads) in
    let o = body_out c.in_ok-then.then in
    let f = c.if-not-is_word.ensures.word.0 refl in
    let l4 = then_reads c.args.around.limits s (body_link a (suc d) o.counts (Tok (token.Word word.Else))) (else_left c.args.around.limits s a (suc d) o f c.if-then.false l3)
    (tok_reads c.args.around.limits t c.in_ok-then.then.to (token.Word word.Else) f) in
    rw (c.if_else.ensures.is End, c.place-here.ensures) (done c.args.around.limits s l4 (deeper c.args.around.limits (λ i. BodyPart a i o.counts) d c.in_ok-other.ensures.reads))

pub loop_stmt-returns-in_err-read-clause-reads : goal.loop_stmt-returns-in_err-read-clause-reads
loop_stmt-returns-in_err-read-clause-reads h c =
    let t = c.args.tokens.now in
    let s = t.spots.items in
    let a = c.args.around.routine in
    let d = c.args.around.depth in
    let k = counts_of c.args.around.counts in
    let l = then_reads c.args.around.limits s (body_link a (suc d) k (Tok (token.Word word.Loop))) (loop_left c.args.around.limits t c.args.at a d k c.requires.within c.requires.here)
    (tok_reads c.args.around.limits t c.args.at (token.Word word.Loop) c.requires.here) in
    let e = c.in_err-read.field-0.0 in
    let p = err_from_is_err_and c.from_residual.result c.from_residual.ensures.1 in
    rw (p.1, p.2) (fails c.args.around.limits t l e (deeper_fails c.args.around.limits (λ i. BodyPart a i k) NoElse t (c.args.at + 1) d e c.in_err-read.ensures.reads))

pub loop_stmt-returns-clause-reads : goal.loop_stmt-returns-clause-reads
loop_stmt-returns-clause-reads h c =
    let t = c.args.tokens.now in
    let s = t.spots.items in
    let a = c.args.around.routine in
    let d = c.args.around.depth in
    let k = counts_of c.args.around.counts in
    let l = then_reads c.args.around.limits s (body_link a (suc d) k (Tok (token.Word word.Loop))) (loop_left c.args.around.limits t c.args.at a d k c.requires.within c.requires.here)
    (tok_reads c.args.around.limits t c.args.at (token.Word word.Loop) c.requires.here) in
    rw (c.loop_stmt.ensures.is End, c.place-here.ensures) (done c.args.around.limits s l (deeper c.args.around.limits (λ i. BodyPart a i k) d c.in_ok-read.ensures.reads))

pub while_stmt-returns-in_err-test-clause-reads : goal.while_stmt-returns-in_err-test-clause-reads
while_stmt-returns-in_err-test-clause-reads h c =
    let t = c.args.tokens.now in
    let s = t.spots.items in
    let a = c.args.around.routine in
    let d = c.args.around.depth in
    let k = counts_of c.args.around.counts in
    let l = then_reads c.args.around.limits s (while_word a (suc d) k) (while_left c.args.around.limits t c.args.at a d k c.requires.within c.requires.here)
    (tok_reads c.args.around.limits t c.args.at (token.Word word.While) c.requires.here) in
    let e = c.in_err-test.field-0.0 in
    let p = err_from_is_err_and c.from_residual.result c.from_residual.ensures.1 in
    rw (p.1, p.2) (first_fails c.args.around.limits t (test_body a (suc d) k) l e (deeper_fails c.args.around.limits Test Any t (c.args.at + 1) d e (c.in_err-test.ensures.reads c.args.around.limits)))

pub while_stmt-returns-in_err-read-clause-reads : goal.while_stmt-returns-in_err-read-clause-reads
while_stmt-returns-in_err-read-clause-reads h c =
    let t = c.args.tokens.now in
    let s = t.spots.items in
    let a = c.args.around.routine in
    let d = c.args.around.depth in
    let k = counts_of c.args.around.counts in
    let l = then_reads c.args.around.limits s (while_word a (suc d) k) (while_left c.args.around.limits t c.args.at a d k c.requires.within c.requires.here)
    (tok_reads c.args.around.limits t c.args.at (token.Word word.While) c.requires.here) in
    let m = then_reads c.args.around.limits s (test_body a (suc d) k) l (deeper c.args.around.limits Test d (c.in_ok-test.ensures.reads c.args.around.limits)) in
    let e = c.in_err-read.field-0.0 in
    let p = err_from_is_err_and c.from_residual-in_err-read.result c.from_residual-in_err-read.ensures.1 in
    rw (p.1, p.2) (fails c.args.around.limits t m e (deeper_fails c.args.around.limits (λ i. BodyPart a i k) NoElse t c.in_ok-test.at d e c.in_err-read.ensures.reads))

pub while_stmt-returns-clause-reads : goal.while_stmt-returns-clause-reads
while_stmt-returns-clause-reads h c =
    let t = c.args.tokens.now in
    let s = t.spots.items in
    let a = c.args.around.routine in
    let d = c.args.around.depth in
    let k = counts_of c.args.around.counts in
    let l = then_reads c.args.around.limits s (while_word a (suc d) k) (while_left c.args.around.limits t c.args.at a d k c.requires.within c.requires.here)
    (tok_reads c.args.around.limits t c.args.at (token.Word word.While) c.requires.here) in
    let m = then_reads c.args.around.limits s (test_body a (suc d) k) l (deeper c.args.around.limits Test d (c.in_ok-test.ensures.reads c.args.around.limits)) in
    rw (c.while_stmt.ensures.is End, c.place-here.ensures) (done c.args.around.limits s m (deeper c.args.around.limits (λ i. BodyPart a i k) d c.in_ok-read.ensures.reads))

pub plain-returns-in_err-read-clause-reads : goal.plain-returns-in_err-read-clause-reads
plain-returns-in_err-read-clause-reads h c =
    let t = c.args.tokens.now in
    let s = t.spots.items in
    let a = c.args.around.routine in
    let d = c.args.around.depth in
    let k = counts_of c.args.around.counts in
    let n = no_keyword (token_at s c.args.at) (λ e. not_true (c.if-is_word.ensures.word.1 e)) (λ e. not_true (c.if-is_word-2.ensures.word.1 e)) (λ e. not_true (c.if-is_word-3.ensures.word.1 e))
    (λ e. not_true (c.if-is_word-4.ensures.word.1 e)) (λ e. not_true (c.if-is_word-5.ensures.word.1 e)) (λ e. not_true (c.if-is_word-6.ensures.word.1 e))
    (λ e. not_true (c.if-is_word-7.ensures.word.1 e)) (λ e. not_true (c.if-is_word-8.ensures.word.1 e)) (λ e. not_true (c.if-is_word-9.ensures.word.1 e))
    (λ e. not_true (c.if-is_word-10.ensures.word.1 e)) in
    let e = c.in_err-read.field-0.0 in
    let p = err_from_is_err_and c.from_residual.result c.from_residual.ensures.1 in
    rw (p.1, p.2) (fails c.args.around.limits t (narrow c.args.around.limits s refl (simple_turns a d k (token_at s c.args.at) n)
    (nothing c.args.around.limits s (Plain a d k) NoElse c.args.at c.requires.within)) e c.in_err-read.ensures.reads)

pub plain-returns-clause-reads : goal.plain-returns-clause-reads
plain-returns-clause-reads h c =
    let t = c.args.tokens.now in
    let s = t.spots.items in
    let a = c.args.around.routine in
    let d = c.args.around.depth in
    let k = counts_of c.args.around.counts in
    let n = no_keyword (token_at s c.args.at) (λ e. not_true (c.if-is_word.ensures.word.1 e)) (λ e. not_true (c.if-is_word-2.ensures.word.1 e)) (λ e. not_true (c.if-is_word-3.ensures.word.1 e))
    (λ e. not_true (c.if-is_word-4.ensures.word.1 e)) (λ e. not_true (c.if-is_word-5.ensures.word.1 e)) (λ e. not_true (c.if-is_word-6.ensures.word.1 e))
    (λ e. not_true (c.if-is_word-7.ensures.word.1 e)) (λ e. not_true (c.if-is_word-8.ensures.word.1 e)) (λ e. not_true (c.if-is_word-9.ensures.word.1 e))
    (λ e. not_true (c.if-is_word-10.ensures.word.1 e)) in
    let r = become c.args.around.limits s refl (simple_turns a d k (token_at s c.args.at) n) c.in_ok-read.ensures.reads in
    rw c.ended.ensures.is (subst (λ b. Reads c.args.around.limits (Plain a d k) NoElse s c.args.at
    (record { body = stmt_of c.in_ok-read.read.stmt End; counts = counts_of c.in_ok-read.read.counts; ends_if = b }) c.in_ok-read.read.to) c.in_ok-read.ensures.closed r)

pub stmt-returns-then-not-begins_stmt-clause-reads : goal.stmt-returns-then-not-begins_stmt-clause-reads
stmt-returns-then-not-begins_stmt-clause-reads h c =
    let t = c.args.tokens.now in
    let a = c.args.around.routine in
    let d = c.args.around.depth in
    let k = counts_of c.args.around.counts in
    rw c.refused.ensures (one_none c.args.around.limits t c.args.at a d k (λ e. not_true (c.if-not-begins_stmt.ensures.begins.1 e)))

pub stmt-returns-in_err-counts-clause-reads : goal.stmt-returns-in_err-counts-clause-reads
stmt-returns-in_err-counts-clause-reads h c =
    let t = c.args.tokens.now in
    let a = c.args.around.routine in
    let d = c.args.around.depth in
    let k = counts_of c.args.around.counts in
    let e = c.in_err-counts.field-0.0 in
    let p = err_from_is_err_and c.from_residual.result c.from_residual.ensures.1 in
    rw (p.1, p.2) (one_beyond c.args.around.limits t c.args.at a d k c.if-not-begins_stmt.ensures.within (c.if-not-begins_stmt.ensures.begins.0 refl) e c.in_err-counts.ensures.beyond)

pub stmt-returns-then-not-is_sign-clause-reads : goal.stmt-returns-then-not-is_sign-clause-reads
stmt-returns-then-not-is_sign-clause-reads h c =
    let t = c.args.tokens.now in
    let s = t.spots.items in
    let a = c.args.around.routine in
    let d = c.args.around.depth in
    let k = counts_of c.args.around.counts in
    let r = subst (λ i. Answer c.args.around.limits (Plain a d i) NoElse stmt_out (λ r. r.to) t c.args.at c.plain.result) c.in_ok-counts.ensures.one c.plain.ensures.reads in
    let b = answer_begun c.args.around.limits (Plain a d (one_statement k)) NoElse stmt_out
    (λ r. r.to) t c.args.at k d c.requires.within c.in_ok-counts.ensures.within.1 c.in_ok-counts.ensures.within.0 c.plain.result r in
    answer_become c.args.around.limits stmt_out (λ r. r.to) t c.args.at c.requires.within refl (one_plain a d k (token_at s c.args.at) (λ e. not_true (c.if-not-is_sign.ensures.sign.1 e)))
    c.plain.result b

pub stmt-returns-in_err-read-clause-reads : goal.stmt-returns-in_err-read-clause-reads
stmt-returns-in_err-read-clause-reads h c =
    let t = c.args.tokens.now in
    let s = t.spots.items in
    let a = c.args.around.routine in
    let d = c.args.around.depth in
    let k = counts_of c.args.around.counts in
    let l = narrow c.args.around.limits s (c.if-not-is_sign.ensures.sign.0 refl) (one_block a d k) (nothing c.args.around.limits s (One a d k) NoElse c.args.at c.requires.within) in
    let e = c.in_err-read.field-0.0 in
    let p = err_from_is_err_and c.from_residual-in_err-read.result c.from_residual-in_err-read.ensures.1 in
    rw (p.1, p.2) (fails c.args.around.limits t l e (begun_fails c.args.around.limits (Placed (Block a (suc d) (one_statement k))) Any t c.args.at k d c.requires.within c.in_ok-counts.ensures.within.1
    c.in_ok-counts.ensures.within.0 e
    (placed_fails c.args.around.limits (Block a (suc d) (one_statement k)) Any StmtToken block_starts t c.args.at e
    (moved_fails c.args.around.limits (Block a (suc d)) Any t c.args.at e c.in_ok-counts.ensures.one
    (deeper_fails c.args.around.limits (λ i. Block a i (counts_of c.in_ok-counts.counts)) Any t c.args.at d e c.in_err-read.ensures.reads)))))

pub stmt-returns-clause-reads : goal.stmt-returns-clause-reads
stmt-returns-clause-reads h c =
    let t = c.args.tokens.now in
    let s = t.spots.items in
    let a = c.args.around.routine in
    let d = c.args.around.depth in
    let k = counts_of c.args.around.counts in
    let l = narrow c.args.around.limits s (c.if-not-is_sign.ensures.sign.0 refl) (one_block a d k) (nothing c.args.around.limits s (One a d k) NoElse c.args.at c.requires.within) in
    let r = moved c.args.around.limits (Block a (suc d)) c.in_ok-counts.ensures.one (deeper c.args.around.limits (λ i. Block a i (counts_of c.in_ok-counts.counts)) d c.in_ok-read.ensures.reads) in
    let p = placed_reads c.args.around.limits t c.args.at c.in_ok-read.read.to c.in_ok-read.ensures.moves.0 r in
    let b = begun_reads c.args.around.limits (Placed (Block a (suc d) (one_statement k))) Any t c.args.at k d c.requires.within c.in_ok-counts.ensures.within.1 c.in_ok-counts.ensures.within.0
    (place_at t c.args.at, block_out c.in_ok-read.read) c.in_ok-read.read.to p in
    rw (c.ended.ensures.is, c.block-2.ensures.is End, c.place-here.ensures) (done c.args.around.limits s l b)

pub stmts-items-init : goal.stmts-items-init
stmts-items-init h c =
    let t = c.args.tokens.now in
    let s = t.spots.items in
    let a = c.args.around.routine in
    let d = c.args.around.depth in
    let k = counts_of c.args.around.counts in
    let l = means c.args.around.limits s (closing_before c.new-body.result.items) (λ o. ap (λ z. closing_before z o) (sym c.new-body.ensures.items))
    (nothing c.args.around.limits s (Closing a d k) Any c.args.at c.requires.within) in
    (omega arith, c.requires.within, l)

pub stmts-items-preserved : goal.stmts-items-preserved
stmts-items-preserved h c =
    let t = c.args.tokens.now in
    let s = t.spots.items in
    let a = c.args.around.routine in
    let d = c.args.around.depth in
    let k = counts_of c.args.around.counts in
    let l = stmts_step c.args.around.limits s a d k c.args.at c.items.at c.in_ok-read.read.to (counts_of c.items.counts) c.in_ok-read.read.stmt
    (counts_of c.in_ok-read.read.counts) c.in_ok-read.read.ends_if c.items.body.items c.push.new.self.items c.in_ok-push.ensures.items c.in_ok-read.ensures.stands
    (λ e. not_true (c.items-test.ensures.sign.1 e)) c.items.invariant.2 c.in_ok-read.ensures.reads in
    (omega (arith, c.items.invariant.0, c.in_ok-read.ensures.moves.0), c.in_ok-read.ensures.moves.1, l)

pub stmts-returns-in_err-read-clause-reads : goal.stmts-returns-in_err-read-clause-reads
stmts-returns-in_err-read-clause-reads h c =
    let t = c.args.tokens.now in
    let s = t.spots.items in
    let a = c.args.around.routine in
    let d = c.args.around.depth in
    let e = c.in_err-read.field-0.0 in
    let p = err_from_is_err_and c.from_residual.result c.from_residual.ensures.1 in
    rw (p.1, p.2) (first_fails c.args.around.limits t (stmt_more a d (counts_of c.items.counts)) (stmt_left c.args.around.limits s (λ e. not_true (c.items-test.ensures.sign.1 e)) c.items.invariant.2)
    e c.in_err-read.ensures.reads)

pub stmts-returns-clause-reads : goal.stmts-returns-clause-reads
stmts-returns-clause-reads h c =
    let t = c.args.tokens.now in
    let s = t.spots.items in
    let a = c.args.around.routine in
    let d = c.args.around.depth in
    let k = counts_of c.args.around.counts in
    let f = c.items-test.ensures.sign.0 refl in
    rw c.place.ensures (stmts_done c.args.around.limits s a d k c.args.at c.items.at (c.items.at + 1) (place_at t c.items.at) (counts_of c.items.counts) c.items.body.items f c.items.invariant.2
    (tok_reads c.args.around.limits t c.items.at (token.Sign sign.CloseCurly) f))

pub try_stmt-returns-in_err-inner-clause-reads : goal.try_stmt-returns-in_err-inner-clause-reads
try_stmt-returns-in_err-inner-clause-reads h c =
    let t = c.args.tokens.now in
    let s = t.spots.items in
    let a = c.args.around.routine in
    let d = c.args.around.depth in
    let k = counts_of c.args.around.counts in
    let l1 = then_reads c.args.around.limits s (try_word a (suc d) k) (try_left c.args.around.limits t c.args.at a d k c.requires.within c.requires.here)
    (tok_reads c.args.around.limits t c.args.at (token.Word word.Try) c.requires.here) in
    let e = c.in_err-inner.field-0.0 in
    let p = err_from_is_err_and c.from_residual.result c.from_residual.ensures.1 in
    rw (p.1, p.2) (first_fails c.args.around.limits t (try_inner a (suc d) k) l1 e (deeper_fails c.args.around.limits (λ i. Block a i k) Any t (c.args.at + 1) d e c.in_err-inner.ensures.reads))

pub try_stmt-returns-in_err-catch_at-clause-reads : goal.try_stmt-returns-in_err-catch_at-clause-reads
try_stmt-returns-in_err-catch_at-clause-reads h c =
    let t = c.args.tokens.now in
    let s = t.spots.items in
    let a = c.args.around.routine in
    let d = c.args.around.depth in
    let k = counts_of c.args.around.counts in
    let l1 = then_reads c.args.around.limits s (try_word a (suc d) k) (try_left c.args.around.limits t c.args.at a d k c.requires.within c.requires.here)
    (tok_reads c.args.around.limits t c.args.at (token.Word word.Try) c.requires.here) in
    let l2 = then_reads c.args.around.limits s (try_inner a (suc d) k) l1 (deeper c.args.around.limits (λ i. Block a i k) d c.in_ok-inner.ensures.reads) in
    let k1 = counts_of c.in_ok-inner.inner.counts in
    let e = c.in_err-catch_at.field-0.0 in
    let p = err_from_is_err_and c.from_residual-in_err-catch_at.result c.from_residual-in_err-catch_at.ensures.1 in
    rw (p.1, p.2) (first_fails c.args.around.limits t (caught_link a (suc d) k1) l2 e (c.in_err-catch_at.ensures.reads c.args.around.limits))

pub try_stmt-returns-in_err-handler-clause-reads : goal.try_stmt-returns-in_err-handler-clause-reads
try_stmt-returns-in_err-handler-clause-reads h c =
    let t = c.args.tokens.now in
    let s = t.spots.items in
    let a = c.args.around.routine in
    let d = c.args.around.depth in
    let k = counts_of c.args.around.counts in
    let l1 = then_reads c.args.around.limits s (try_word a (suc d) k) (try_left c.args.around.limits t c.args.at a d k c.requires.within c.requires.here)
    (tok_reads c.args.around.limits t c.args.at (token.Word word.Try) c.requires.here) in
    let l2 = then_reads c.args.around.limits s (try_inner a (suc d) k) l1 (deeper c.args.around.limits (λ i. Block a i k) d c.in_ok-inner.ensures.reads) in
    let k1 = counts_of c.in_ok-inner.inner.counts in
    let l3 = then_reads c.args.around.limits s (caught_link a (suc d) k1) l2 (c.in_ok-catch_at.ensures.reads c.args.around.limits) in
    let e = c.in_err-handler.field-0.0 in
    let p = err_from_is_err_and c.from_residual-in_err-handler.result c.from_residual-in_err-handler.ensures.1 in
    rw (p.1, p.2) (fails c.args.around.limits t l3 e (deeper_fails c.args.around.limits (λ i. Block a i k1) Any t c.in_ok-catch_at.at d e c.in_err-handler.ensures.reads))

pub try_stmt-returns-clause-reads : goal.try_stmt-returns-clause-reads
try_stmt-returns-clause-reads h c =
    let t = c.args.tokens.now in
    let s = t.spots.items in
    let a = c.args.around.routine in
    let d = c.args.around.depth in
    let k = counts_of c.args.around.counts in
    let l1 = then_reads c.args.around.limits s (try_word a (suc d) k) (try_left c.args.around.limits t c.args.at a d k c.requires.within c.requires.here)
    (tok_reads c.args.around.limits t c.args.at (token.Word word.Try) c.requires.here) in
    let l2 = then_reads c.args.around.limits s (try_inner a (suc d) k) l1 (deeper c.args.around.limits (λ i. Block a i k) d c.in_ok-inner.ensures.reads) in
    let k1 = counts_of c.in_ok-inner.inner.counts in
    let l3 = then_reads c.args.around.limits s (caught_link a (suc d) k1) l2 (c.in_ok-catch_at.ensures.reads c.args.around.limits) in
    rw (c.ended.ensures.is, c.try_stmt-stmt.ensures.is End, c.place-here.ensures) (done c.args.around.limits s l3 (deeper c.args.around.limits (λ i. Block a i k1) d c.in_ok-handler.ensures.reads))

pub when-returns-then-not-is_word-clause-reads : goal.when-returns-then-not-is_word-clause-reads
when-returns-then-not-is_word-clause-reads h c =
    let t = c.args.tokens.now in
    let a = c.args.around.routine in
    let d = c.args.around.depth in
    let k = counts_of c.args.around.counts in
    let n = c.args.before + 1 in
    let l = when_left c.args.around.limits t c.args.at a d k c.requires.within n in
    rw c.refused.ensures (first_fails c.args.around.limits t (when_word a d k n) l (Refused (rule.S 5) (place_at t c.args.at))
    (opening_none c.args.around.limits (Branch n ∷ Node d ∷ []) (token.Word word.When) t c.args.at (λ e. not_true (c.if-not-is_word.ensures.word.1 e))))

pub when-returns-then-around-gt-DEPTH-clause-reads : goal.when-returns-then-around-gt-DEPTH-clause-reads
when-returns-then-around-gt-DEPTH-clause-reads h c =
    let t = c.args.tokens.now in
    let a = c.args.around.routine in
    let d = c.args.around.depth in
    let k = counts_of c.args.around.counts in
    let n = c.args.before + 1 in
    let l = when_left c.args.around.limits t c.args.at a d k c.requires.within n in
    let q = c.if-not-is_word.ensures.word.0 refl in
    rw c.refused-then-around-gt-DEPTH.ensures (first_fails c.args.around.limits t (when_word a d k n) l (Refused (rule.L 5) (place_at t c.args.at))
    (opening_beyond c.args.around.limits (Branch n ∷ Node d ∷ []) (token.Word word.When) 5 t c.args.at (omega arith) (omega arith) q
    (λ x. omega (arith, x.1.0 (omega arith), c.if-around-gt-DEPTH.true)) (λ m i. ((λ j. absurd (omega (arith, i, j))), ((λ j. absurd (omega (arith, i, j))), tt)))))

pub when-returns-then-before-around-clause-reads : goal.when-returns-then-before-around-clause-reads
when-returns-then-before-around-clause-reads h c =
    let t = c.args.tokens.now in
    let a = c.args.around.routine in
    let d = c.args.around.depth in
    let k = counts_of c.args.around.counts in
    let n = c.args.before + 1 in
    let l = when_left c.args.around.limits t c.args.at a d k c.requires.within n in
    let q = c.if-not-is_word.ensures.word.0 refl in
    rw c.refused-then-before-around.ensures (first_fails c.args.around.limits t (when_word a d k n) l (Refused (rule.L 7) (place_at t c.args.at))
    (opening_beyond c.args.around.limits (Branch n ∷ Node d ∷ []) (token.Word word.When) 7 t c.args.at (omega arith) (omega arith) q
    (λ x. omega (arith, x.0 (omega arith), c.if-before-around.true)) (λ m i. ((λ j. absurd (omega (arith, i, j))), ((λ j. c.if-around-gt-DEPTH.false), tt)))))

pub when-returns-in_err-at-clause-reads : goal.when-returns-in_err-at-clause-reads
when-returns-in_err-at-clause-reads h c =
    let t = c.args.tokens.now in
    let s = t.spots.items in
    let a = c.args.around.routine in
    let d = c.args.around.depth in
    let k = counts_of c.args.around.counts in
    let n = c.args.before + 1 in
    let l = when_left c.args.around.limits t c.args.at a d k c.requires.within n in
    let q = c.if-not-is_word.ensures.word.0 refl in
    let w = opening_reads c.args.around.limits t c.args.at (Branch n ∷ Node d ∷ []) (token.Word word.When) q ((λ l. omega (arith, c.if-before-around.false)), ((λ l. c.if-around-gt-DEPTH.false), tt))
    in
    let l1 = then_reads c.args.around.limits s (when_word a d k n) l w in
    let e = c.in_err-at.field-0.0 in
    let p = err_from_is_err_and c.from_residual.result c.from_residual.ensures.1 in
    rw (p.1, p.2) (first_fails c.args.around.limits t (when_open a d k) l1 e (c.in_err-at.ensures.reads c.args.around.limits))

pub when-returns-in_err-read-clause-reads : goal.when-returns-in_err-read-clause-reads
when-returns-in_err-read-clause-reads h c =
    let t = c.args.tokens.now in
    let s = t.spots.items in
    let a = c.args.around.routine in
    let d = c.args.around.depth in
    let k = counts_of c.args.around.counts in
    let n = c.args.before + 1 in
    let l = when_left c.args.around.limits t c.args.at a d k c.requires.within n in
    let q = c.if-not-is_word.ensures.word.0 refl in
    let w = opening_reads c.args.around.limits t c.args.at (Branch n ∷ Node d ∷ []) (token.Word word.When) q ((λ l. omega (arith, c.if-before-around.false)), ((λ l. c.if-around-gt-DEPTH.false), tt))
    in
    let l1 = then_reads c.args.around.limits s (when_word a d k n) l w in
    let l2 = then_reads c.args.around.limits s (when_open a d k) l1 (c.in_ok-at.ensures.reads c.args.around.limits) in
    let e = c.in_err-read.field-0.0 in
    let p = err_from_is_err_and c.from_residual-in_err-read.result c.from_residual-in_err-read.ensures.1 in
    rw (p.1, p.2) (first_fails c.args.around.limits t (when_waiting a d k) l2 e c.in_err-read.ensures.reads)

pub when-returns-in_err-at-2-clause-reads : goal.when-returns-in_err-at-2-clause-reads
when-returns-in_err-at-2-clause-reads h c =
    let t = c.args.tokens.now in
    let s = t.spots.items in
    let a = c.args.around.routine in
    let d = c.args.around.depth in
    let k = counts_of c.args.around.counts in
    let n = c.args.before + 1 in
    let l = when_left c.args.around.limits t c.args.at a d k c.requires.within n in
    let q = c.if-not-is_word.ensures.word.0 refl in
    let w = opening_reads c.args.around.limits t c.args.at (Branch n ∷ Node d ∷ []) (token.Word word.When) q ((λ l. omega (arith, c.if-before-around.false)), ((λ l. c.if-around-gt-DEPTH.false), tt))
    in
    let l1 = then_reads c.args.around.limits s (when_word a d k n) l w in
    let l2 = then_reads c.args.around.limits s (when_open a d k) l1 (c.in_ok-at.ensures.reads c.args.around.limits) in
    let l3 = then_reads c.args.around.limits s (when_waiting a d k) l2 c.in_ok-read.ensures.reads in
    let k1 = counts_of c.in_ok-read.read.counts in
    let e = c.in_err-at-2.field-0.0 in
    let p = err_from_is_err_and c.from_residual-in_err-at-2.result c.from_residual-in_err-at-2.ensures.1 in
    rw (p.1, p.2) (first_fails c.args.around.limits t (when_close a d k1) l3 e (c.in_err-at-2.ensures.reads c.args.around.limits))

pub when-returns-in_err-inner-clause-reads : goal.when-returns-in_err-inner-clause-reads
when-returns-in_err-inner-clause-reads h c =
    let t = c.args.tokens.now in
    let s = t.spots.items in
    let a = c.args.around.routine in
    let d = c.args.around.depth in
    let k = counts_of c.args.around.counts in
    let n = c.args.before + 1 in
    let l = when_left c.args.around.limits t c.args.at a d k c.requires.within n in
    let q = c.if-not-is_word.ensures.word.0 refl in
    let w = opening_reads c.args.around.limits t c.args.at (Branch n ∷ Node d ∷ []) (token.Word word.When) q ((λ l. omega (arith, c.if-before-around.false)), ((λ l. c.if-around-gt-DEPTH.false), tt))
    in
    let l1 = then_reads c.args.around.limits s (when_word a d k n) l w in
    let l2 = then_reads c.args.around.limits s (when_open a d k) l1 (c.in_ok-at.ensures.reads c.args.around.limits) in
    let l3 = then_reads c.args.around.limits s (when_waiting a d k) l2 c.in_ok-read.ensures.reads in
    let k1 = counts_of c.in_ok-read.read.counts in
    let l4 = then_reads c.args.around.limits s (when_close a d k1) l3 (c.in_ok-at-2.ensures.reads c.args.around.limits) in
    let e = c.in_err-inner.field-0.0 in
    let p = err_from_is_err_and c.from_residual-in_err-inner.result c.from_residual-in_err-inner.ensures.1 in
    rw (p.1, p.2) (fails c.args.around.limits t l4 e (deeper_fails c.args.around.limits (λ i. BodyPart a i k1) NoElse t c.in_ok-at-2.at d e c.in_err-inner.ensures.reads))

pub when-returns-clause-reads : goal.when-returns-clause-reads
when-returns-clause-reads h c =
    let t = c.args.tokens.now in
    let s = t.spots.items in
    let a = c.args.around.routine in
    let d = c.args.around.depth in
    let k = counts_of c.args.around.counts in
    let n = c.args.before + 1 in
    let l = when_left c.args.around.limits t c.args.at a d k c.requires.within n in
    let q = c.if-not-is_word.ensures.word.0 refl in
    let w = opening_reads c.args.around.limits t c.args.at (Branch n ∷ Node d ∷ []) (token.Word word.When) q ((λ l. omega (arith, c.if-before-around.false)), ((λ l. c.if-around-gt-DEPTH.false), tt))
    in
    let l1 = then_reads c.args.around.limits s (when_word a d k n) l w in
    let l2 = then_reads c.args.around.limits s (when_open a d k) l1 (c.in_ok-at.ensures.reads c.args.around.limits) in
    let l3 = then_reads c.args.around.limits s (when_waiting a d k) l2 c.in_ok-read.ensures.reads in
    let k1 = counts_of c.in_ok-read.read.counts in
    let l4 = then_reads c.args.around.limits s (when_close a d k1) l3 (c.in_ok-at-2.ensures.reads c.args.around.limits) in
    rw c.place-here.ensures (done c.args.around.limits s l4 (deeper c.args.around.limits (λ i. BodyPart a i k1) d c.in_ok-inner.ensures.reads))

pub whens-returns-in_err-first-clause-reads : goal.whens-returns-in_err-first-clause-reads
whens-returns-in_err-first-clause-reads h c =
    let t = c.args.tokens.now in
    let a = c.args.around.routine in
    let d = c.args.around.depth in
    let k = counts_of c.args.around.counts in
    let e = c.in_err-first.field-0.0 in
    let p = err_from_is_err_and c.from_residual.result c.from_residual.ensures.1 in
    rw (p.1, p.2) (first_fails c.args.around.limits t (when_more a d k 1) (whens_left c.args.around.limits t c.args.at a d k c.requires.within) e c.in_err-first.ensures.reads)

pub whens-branches-init : goal.whens-branches-init
whens-branches-init h c =
    let t = c.args.tokens.now in
    let a = c.args.around.routine in
    let d = c.args.around.depth in
    let k = counts_of c.args.around.counts in
    let q = one_pushed c.new-branches.result.items c.push.new.self.items c.when_branch.result c.in_ok-push.ensures.items c.new-branches.ensures.items in
    let l = whens_init c.args.around.limits t c.args.at a d k c.in_ok-first.first.to (when_out c.in_ok-first.first) c.when_branch.result c.push.new.self.items c.requires.within q c.when_branch.ensures
    c.in_ok-first.ensures.reads in
    (c.in_ok-first.ensures.moves.0, c.in_ok-first.ensures.moves.1, omega (arith, c.in_ok-first.ensures.few), l)

pub whens-branches-preserved : goal.whens-branches-preserved
whens-branches-preserved h c =
    let t = c.args.tokens.now in
    let s = t.spots.items in
    let a = c.args.around.routine in
    let d = c.args.around.depth in
    let k = counts_of c.args.around.counts in
    let i = c.branches.invariant in
    let n = c.branches.before + 1 in
    let e : n + 1 ≡ suc n = omega arith in
    let f = c.branches-test.ensures.word.0 refl in
    let l = whens_step c.args.around.limits s a d k c.args.at c.branches.at c.in_ok-read.read.to n (n + 1) (counts_of c.branches.counts)
    (when_out c.in_ok-read.read) c.when_branch-in-branches.result c.branches.branches.items c.push-in-branches.new.self.items c.in_ok-push-2.ensures.items c.when_branch-in-branches.ensures e f
    i.3 c.in_ok-read.ensures.reads in
    (omega (arith, i.0, c.in_ok-read.ensures.moves.0), c.in_ok-read.ensures.moves.1, omega (arith, c.in_ok-read.ensures.few), l)

pub whens-returns-in_err-read-clause-reads : goal.whens-returns-in_err-read-clause-reads
whens-returns-in_err-read-clause-reads h c =
    let t = c.args.tokens.now in
    let s = t.spots.items in
    let a = c.args.around.routine in
    let d = c.args.around.depth in
    let e = c.in_err-read.field-0.0 in
    let p = err_from_is_err_and c.from_residual-in_err-read.result c.from_residual-in_err-read.ensures.1 in
    rw (p.1, p.2) (first_fails c.args.around.limits t (when_more a d (counts_of c.branches.counts) (c.branches.before + 1))
    (more_left c.args.around.limits s (c.branches-test.ensures.word.0 refl) c.branches.invariant.3) e c.in_err-read.ensures.reads)

pub whens-returns-in_err-to-clause-reads : goal.whens-returns-in_err-to-clause-reads
whens-returns-in_err-to-clause-reads h c =
    let t = c.args.tokens.now in
    let s = t.spots.items in
    let e = c.in_err-to.field-0.0 in
    let p = err_from_is_err_and c.from_residual-in_err-to.result c.from_residual-in_err-to.ensures.1 in
    rw (p.1, p.2) (fails c.args.around.limits t (end_whens c.args.around.limits s (λ e. not_true (c.branches-test.ensures.word.1 e)) c.branches.invariant.3) e
    (c.in_err-to.ensures.reads c.args.around.limits))

pub whens-returns-clause-reads : goal.whens-returns-clause-reads
whens-returns-clause-reads h c =
    let t = c.args.tokens.now in
    let s = t.spots.items in
    let a = c.args.around.routine in
    let d = c.args.around.depth in
    let k = counts_of c.args.around.counts in
    whens_done c.args.around.limits s a d k c.args.at c.branches.at c.in_ok-to.to (c.branches.before + 1) _ (counts_of c.branches.counts) c.branches.branches.items
    (λ e. not_true (c.branches-test.ensures.word.1 e)) c.branches.invariant.3 (c.in_ok-to.ensures.reads c.args.around.limits)
