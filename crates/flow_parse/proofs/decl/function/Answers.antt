use Rattle.std.proofs.lemmas.Result.{err_from_is_err_and}
use Rattle.flow_tree.specs.Grammar.{TypeRule}
use Rattle.flow_parse.specs.Openers.{TypeToken}
use Rattle.flow_parse.specs.Reading.{Any}
use Rattle.flow_parse.proofs.Begins.{type_starts}
use Rattle.flow_parse.proofs.Leaves.{then_reads, done, fails, first_fails, placed_reads, placed_fails}
use Rattle.flow_parse.proofs.Decls.{function_link, function_left}
use Rattle.flow_parse.proofs.decl.function.Goals as goal

pub returns-in_err-returns-clause-reads : goal.returns-in_err-returns-clause-reads
returns-in_err-returns-clause-reads c =
    let t = c.args.tokens.now in
    let p = err_from_is_err_and c.from_residual.result c.from_residual.ensures.1 in
    rw (p.1, p.2) (first_fails c.args.limits t (function_link c.args.home) (function_left c.args.limits t c.args.at c.requires.within c.args.home) _
    (placed_fails c.args.limits (TypeRule 1) Any TypeToken (λ w a r. type_starts r) t c.args.at _ (c.in_err-returns.ensures.reads c.args.limits)))

pub returns-in_err-read-clause-reads : goal.returns-in_err-read-clause-reads
returns-in_err-read-clause-reads c =
    let t = c.args.tokens.now in
    let r = placed_reads c.args.limits t c.args.at c.in_ok-returns.at c.in_ok-returns.ensures.moves.0 (c.in_ok-returns.ensures.reads c.args.limits) in
    let p = err_from_is_err_and c.from_residual-in_err-read.result c.from_residual-in_err-read.ensures.1 in
    rw (p.1, p.2) (fails c.args.limits t (then_reads c.args.limits t.spots.items (function_link c.args.home) (function_left c.args.limits t c.args.at c.requires.within c.args.home) r) _ c.in_err-read.ensures.reads)

pub returns-clause-reads : goal.returns-clause-reads
returns-clause-reads c =
    let t = c.args.tokens.now in
    let r = placed_reads c.args.limits t c.args.at c.in_ok-returns.at c.in_ok-returns.ensures.moves.0 (c.in_ok-returns.ensures.reads c.args.limits) in
    rw c.place-here.ensures (done c.args.limits t.spots.items (then_reads c.args.limits t.spots.items (function_link c.args.home) (function_left c.args.limits t c.args.at c.requires.within c.args.home) r)
    c.in_ok-read.ensures.reads)
