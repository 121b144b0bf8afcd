use Rattle.std.proofs.lemmas.Result.{err_from_is_err_and}
use Rattle.flow_parse.proofs.Leaves.{then_reads, done, fails, first_fails}
use Rattle.flow_parse.proofs.Decls.{gives_link, actor_read}
use Rattle.flow_parse.proofs.decl.actor.Goals as goal

pub returns-in_err-returns-clause-reads : goal.returns-in_err-returns-clause-reads
returns-in_err-returns-clause-reads c =
    let t = c.args.tokens.now in
    let l = actor_read c.args.limits t c.args.at c.requires.within c.requires.here in
    let p = err_from_is_err_and c.from_residual.result c.from_residual.ensures.1 in
    rw (p.1, p.2) (first_fails c.args.limits t gives_link l _ (c.in_err-returns.ensures.reads c.args.limits))

pub returns-in_err-read-clause-reads : goal.returns-in_err-read-clause-reads
returns-in_err-read-clause-reads c =
    let t = c.args.tokens.now in
    let l = then_reads c.args.limits t.spots.items gives_link (actor_read c.args.limits t c.args.at c.requires.within c.requires.here) (c.in_ok-returns.ensures.reads c.args.limits) in
    let p = err_from_is_err_and c.from_residual-in_err-read.result c.from_residual-in_err-read.ensures.1 in
    rw (p.1, p.2) (fails c.args.limits t l _ c.in_err-read.ensures.reads)

pub returns-clause-reads : goal.returns-clause-reads
returns-clause-reads c =
    let t = c.args.tokens.now in
    let l = then_reads c.args.limits t.spots.items gives_link (actor_read c.args.limits t c.args.at c.requires.within c.requires.here) (c.in_ok-returns.ensures.reads c.args.limits) in
    rw c.place-here.ensures (done c.args.limits t.spots.items l c.in_ok-read.ensures.reads)
