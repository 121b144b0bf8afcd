use Rattle.std.proofs.Common.{subst}
use Rattle.std.proofs.lemmas.Result.{err_from_is_err_and}
use Rattle.flow_tree.specs.Body.{End}
use Rattle.flow_tree.specs.StmtView.{stmt_of}
use Rattle.flow_parse.specs.Reading.{Any, Reads}
use Rattle.flow_parse.specs.Parts.{Simple}
use Rattle.flow_parse.specs.Views.{counts_of}
use Rattle.flow_parse.proofs.Leaves.{then_reads, done, first_fails, fails}
use Rattle.flow_parse.proofs.Unended.{simple_left, semicolon_link}
use Rattle.flow_parse.proofs.simple.simple.Goals as goal

pub returns-in_err-read-clause-reads : goal.returns-in_err-read-clause-reads
returns-in_err-read-clause-reads c =
    let t = c.args.tokens.now in
    let l = simple_left c.args.around.limits t c.args.at c.args.around.routine c.args.around.depth (counts_of c.args.around.counts) c.requires.within in
    let p = err_from_is_err_and c.from_residual.result c.from_residual.ensures.1 in
    rw (p.1, p.2) (first_fails c.args.around.limits t (semicolon_link c.args.around.routine c.args.around.depth (counts_of c.args.around.counts)) l c.in_err-read.field-0.0 c.in_err-read.ensures.reads)

pub returns-in-Err-clause-reads : goal.returns-in-Err-clause-reads
returns-in-Err-clause-reads c =
    let t = c.args.tokens.now in
    let l = simple_left c.args.around.limits t c.args.at c.args.around.routine c.args.around.depth (counts_of c.args.around.counts) c.requires.within in
    fails c.args.around.limits t (then_reads c.args.around.limits t.spots.items (semicolon_link c.args.around.routine c.args.around.depth (counts_of c.args.around.counts)) l c.in_ok-read.ensures.reads)
    c.in-Err.fault (c.in-Err.ensures.reads c.args.around.limits)

pub returns-in-Ok-clause-reads : goal.returns-in-Ok-clause-reads
returns-in-Ok-clause-reads c =
    let t = c.args.tokens.now in
    let l = simple_left c.args.around.limits t c.args.at c.args.around.routine c.args.around.depth (counts_of c.args.around.counts) c.requires.within in
    rw c.ended.ensures.is (subst (λ b. Reads c.args.around.limits (Simple c.args.around.routine c.args.around.depth (counts_of c.args.around.counts)) Any t.spots.items c.args.at
    (record { body = stmt_of c.in_ok-read.read.stmt End; counts = counts_of c.in_ok-read.read.counts; ends_if = b }) c.in-Ok.to) c.in_ok-read.ensures.closed
    (done c.args.around.limits t.spots.items (then_reads c.args.around.limits t.spots.items (semicolon_link c.args.around.routine c.args.around.depth (counts_of c.args.around.counts)) l
    c.in_ok-read.ensures.reads) (c.in-Ok.ensures.reads c.args.around.limits)))
