use Rattle.std.proofs.lemmas.Result.{err_from_is_err_and}
use Rattle.flow_tree.specs.declared.token.Token.TheVariants as token
use Rattle.flow_tree.specs.declared.token.Word.TheVariants as word
use Rattle.flow_tree.specs.Body.{End}
use Rattle.flow_parse.specs.Views.{counts_of}
use Rattle.flow_parse.proofs.Leaves.{then_reads, done, fails, tok_reads}
use Rattle.flow_parse.proofs.Stmts.{continue_left, semicolon_link}
use Rattle.flow_parse.proofs.leaving.continue_stmt.Goals as goal

pub returns-clause-reads : goal.returns-clause-reads
returns-clause-reads c =
    let t = c.args.tokens.now in
    let k = tok_reads c.args.around.limits t c.args.at (token.Word word.Continue) c.requires.here in
    let l = then_reads c.args.around.limits t.spots.items semicolon_link
    (continue_left c.args.around.limits t c.args.at c.args.around.routine c.args.around.depth (counts_of c.args.around.counts) c.requires.within c.requires.here) k in
    rw (c.ended.ensures.is, c.continue_stmt.ensures.is End, c.place-here.ensures) (done c.args.around.limits t.spots.items l (c.in_ok-to.ensures.reads c.args.around.limits))

pub returns-in_err-to-clause-reads : goal.returns-in_err-to-clause-reads
returns-in_err-to-clause-reads c =
    let t = c.args.tokens.now in
    let k = tok_reads c.args.around.limits t c.args.at (token.Word word.Continue) c.requires.here in
    let l = then_reads c.args.around.limits t.spots.items semicolon_link
    (continue_left c.args.around.limits t c.args.at c.args.around.routine c.args.around.depth (counts_of c.args.around.counts) c.requires.within c.requires.here) k in
    let p = err_from_is_err_and c.from_residual.result c.from_residual.ensures.1 in
    rw (p.1, p.2) (fails c.args.around.limits t l c.in_err-to.field-0.0 (c.in_err-to.ensures.reads c.args.around.limits))
