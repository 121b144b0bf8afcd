use Rattle.std.proofs.lemmas.Result.{err_from_is_err_and}
use Rattle.flow_parse.specs.Views.{counts_of}
use Rattle.flow_parse.proofs.Leaves.{then_reads, done, first_fails, fails}
use Rattle.flow_parse.proofs.Variables.{into_left, state_link, type_link}
use Rattle.flow_parse.proofs.simple.into.Goals as goal

pub returns-in_err-state-clause-reads : goal.returns-in_err-state-clause-reads
returns-in_err-state-clause-reads c =
    let t = c.args.tokens.now in
    let l = into_left c.args.around.limits t c.args.at c.args.around.routine c.args.around.depth (counts_of c.args.around.counts) c.requires.within in
    let p = err_from_is_err_and c.from_residual.result c.from_residual.ensures.1 in
    rw (p.1, p.2) (first_fails c.args.around.limits t (state_link c.args.around.routine c.args.around.depth (counts_of c.args.around.counts)) l c.in_err-state.field-0.0 c.in_err-state.ensures.reads)

pub returns-in_err-ty-clause-reads : goal.returns-in_err-ty-clause-reads
returns-in_err-ty-clause-reads c =
    let t = c.args.tokens.now in
    let l = into_left c.args.around.limits t c.args.at c.args.around.routine c.args.around.depth (counts_of c.args.around.counts) c.requires.within in
    let m = then_reads c.args.around.limits t.spots.items (state_link c.args.around.routine c.args.around.depth (counts_of c.args.around.counts)) l c.in_ok-state.ensures.reads in
    let p = err_from_is_err_and c.from_residual-in_err-ty.result c.from_residual-in_err-ty.ensures.1 in
    rw (p.1, p.2) (first_fails c.args.around.limits t (type_link c.args.around.depth) m c.in_err-ty.field-0.0 (c.in_err-ty.ensures.reads c.args.around.limits))

pub returns-in_err-name-clause-reads : goal.returns-in_err-name-clause-reads
returns-in_err-name-clause-reads c =
    let t = c.args.tokens.now in
    let l = into_left c.args.around.limits t c.args.at c.args.around.routine c.args.around.depth (counts_of c.args.around.counts) c.requires.within in
    let m = then_reads c.args.around.limits t.spots.items (state_link c.args.around.routine c.args.around.depth (counts_of c.args.around.counts)) l c.in_ok-state.ensures.reads in
    let n = then_reads c.args.around.limits t.spots.items (type_link c.args.around.depth) m (c.in_ok-ty.ensures.reads c.args.around.limits) in
    let p = err_from_is_err_and c.from_residual-in_err-name.result c.from_residual-in_err-name.ensures.1 in
    rw (p.1, p.2) (fails c.args.around.limits t n c.in_err-name.field-0.0 (c.in_err-name.ensures.reads c.args.around.limits))

pub returns-clause-reads : goal.returns-clause-reads
returns-clause-reads c =
    let t = c.args.tokens.now in
    let l = into_left c.args.around.limits t c.args.at c.args.around.routine c.args.around.depth (counts_of c.args.around.counts) c.requires.within in
    let m = then_reads c.args.around.limits t.spots.items (state_link c.args.around.routine c.args.around.depth (counts_of c.args.around.counts)) l c.in_ok-state.ensures.reads in
    let n = then_reads c.args.around.limits t.spots.items (type_link c.args.around.depth) m (c.in_ok-ty.ensures.reads c.args.around.limits) in
    done c.args.around.limits t.spots.items n (c.in_ok-name.ensures.reads c.args.around.limits)
