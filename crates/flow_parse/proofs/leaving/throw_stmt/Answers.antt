use Rattle.std.proofs.Common.{suc, ◌+◌}
use Rattle.std.proofs.lemmas.Result.{err_from_is_err_and}
use Rattle.flow_tree.specs.declared.token.Token.TheVariants as token
use Rattle.flow_tree.specs.declared.token.Word.TheVariants as word
use Rattle.flow_tree.specs.Body.{End}
use Rattle.flow_parse.specs.Reading.{Any}
use Rattle.flow_parse.specs.Parts.{MaybeExpr}
use Rattle.flow_parse.specs.Views.{counts_of}
use Rattle.flow_parse.proofs.Leaves.{then_reads, done, fails, tok_reads, deeper}
use Rattle.flow_parse.proofs.Deeper.{deeper_fails}
use Rattle.flow_parse.proofs.Stmts.{throw_left, throw_word}
use Rattle.flow_parse.proofs.leaving.throw_stmt.Goals as goal

pub returns-clause-reads : goal.returns-clause-reads
returns-clause-reads c =
    let t = c.args.tokens.now in
    let d = c.args.around.depth in
    let k = tok_reads c.args.around.limits t c.args.at (token.Word word.Throw) c.requires.here in
    let l = then_reads c.args.around.limits t.spots.items (throw_word (token.Word word.Throw) (suc d))
    (throw_left c.args.around.limits t c.args.at c.args.around.routine d (counts_of c.args.around.counts) c.requires.within c.requires.here) k in
    rw (c.ended.ensures.is, c.throw_stmt.ensures.is End, c.place-here.ensures)
    (done c.args.around.limits t.spots.items l (deeper c.args.around.limits MaybeExpr d (c.in_ok-error.ensures.reads c.args.around.limits)))

pub returns-in_err-error-clause-reads : goal.returns-in_err-error-clause-reads
returns-in_err-error-clause-reads c =
    let t = c.args.tokens.now in
    let d = c.args.around.depth in
    let k = tok_reads c.args.around.limits t c.args.at (token.Word word.Throw) c.requires.here in
    let l = then_reads c.args.around.limits t.spots.items (throw_word (token.Word word.Throw) (suc d))
    (throw_left c.args.around.limits t c.args.at c.args.around.routine d (counts_of c.args.around.counts) c.requires.within c.requires.here) k in
    let p = err_from_is_err_and c.from_residual.result c.from_residual.ensures.1 in
    rw (p.1, p.2) (fails c.args.around.limits t l c.in_err-error.field-0.0
    (deeper_fails c.args.around.limits MaybeExpr Any t (c.args.at + 1) d c.in_err-error.field-0.0 (c.in_err-error.ensures.reads c.args.around.limits)))
