use Rattle.std.proofs.Common.{refl}
use Rattle.std.proofs.lemmas.Result.{err_from_is_err_and}
use Rattle.flow_parse.specs.Views.{counts_of}
use Rattle.flow_parse.proofs.Looking.{not_true}
use Rattle.flow_parse.proofs.Leaves.{then_reads, done, first_fails, fails}
use Rattle.flow_parse.proofs.Unended.{plain_waiting, into_waiting, into_wait_link, assign_wait_link}
use Rattle.flow_parse.proofs.simple.waiting.Goals as goal

pub returns-then-begins_wait-clause-reads : goal.returns-then-begins_wait-clause-reads
returns-then-begins_wait-clause-reads c =
    let t = c.args.tokens.now in
    done c.args.around.limits t.spots.items (plain_waiting c.args.around.limits t c.args.at c.args.around.routine c.args.around.depth (counts_of c.args.around.counts) c.requires.within
    (c.if-begins_wait.ensures.0 refl)) (c.in_ok-next.ensures.reads c.args.around.limits)

pub returns-in_err-next-clause-reads : goal.returns-in_err-next-clause-reads
returns-in_err-next-clause-reads c =
    let t = c.args.tokens.now in
    let p = err_from_is_err_and c.from_residual.result c.from_residual.ensures.1 in
    rw (p.1, p.2) (fails c.args.around.limits t (plain_waiting c.args.around.limits t c.args.at c.args.around.routine c.args.around.depth (counts_of c.args.around.counts) c.requires.within
    (c.if-begins_wait.ensures.0 refl)) c.in_err-next.field-0.0 (c.in_err-next.ensures.reads c.args.around.limits))

pub returns-in_err-read-clause-reads : goal.returns-in_err-read-clause-reads
returns-in_err-read-clause-reads c =
    let t = c.args.tokens.now in
    let l = into_waiting c.args.around.limits t c.args.at c.args.around.routine c.args.around.depth (counts_of c.args.around.counts) c.requires.within (λ h. not_true (c.if-begins_wait.ensures.1 h)) in
    let p = err_from_is_err_and c.from_residual-in_err-read.result c.from_residual-in_err-read.ensures.1 in
    rw (p.1, p.2) (first_fails c.args.around.limits t (into_wait_link c.args.around.routine c.args.around.depth (counts_of c.args.around.counts)) l c.in_err-read.field-0.0 c.in_err-read.ensures.reads)

pub returns-in_err-at-clause-reads : goal.returns-in_err-at-clause-reads
returns-in_err-at-clause-reads c =
    let t = c.args.tokens.now in
    let l = into_waiting c.args.around.limits t c.args.at c.args.around.routine c.args.around.depth (counts_of c.args.around.counts) c.requires.within (λ h. not_true (c.if-begins_wait.ensures.1 h)) in
    let m = then_reads c.args.around.limits t.spots.items (into_wait_link c.args.around.routine c.args.around.depth (counts_of c.args.around.counts)) l c.in_ok-read.ensures.reads in
    let p = err_from_is_err_and c.from_residual-in_err-at.result c.from_residual-in_err-at.ensures.1 in
    rw (p.1, p.2) (first_fails c.args.around.limits t (assign_wait_link c.args.around.depth) m c.in_err-at.field-0.0 (c.in_err-at.ensures.reads c.args.around.limits))

pub returns-in_err-next-2-clause-reads : goal.returns-in_err-next-2-clause-reads
returns-in_err-next-2-clause-reads c =
    let t = c.args.tokens.now in
    let l = into_waiting c.args.around.limits t c.args.at c.args.around.routine c.args.around.depth (counts_of c.args.around.counts) c.requires.within (λ h. not_true (c.if-begins_wait.ensures.1 h)) in
    let m = then_reads c.args.around.limits t.spots.items (into_wait_link c.args.around.routine c.args.around.depth (counts_of c.args.around.counts)) l c.in_ok-read.ensures.reads in
    let n = then_reads c.args.around.limits t.spots.items (assign_wait_link c.args.around.depth) m (c.in_ok-at.ensures.reads c.args.around.limits) in
    let p = err_from_is_err_and c.from_residual-in_err-next-2.result c.from_residual-in_err-next-2.ensures.1 in
    rw (p.1, p.2) (fails c.args.around.limits t n c.in_err-next-2.field-0.0 (c.in_err-next-2.ensures.reads c.args.around.limits))

pub returns-clause-reads : goal.returns-clause-reads
returns-clause-reads c =
    let t = c.args.tokens.now in
    let l = into_waiting c.args.around.limits t c.args.at c.args.around.routine c.args.around.depth (counts_of c.args.around.counts) c.requires.within (λ h. not_true (c.if-begins_wait.ensures.1 h)) in
    let m = then_reads c.args.around.limits t.spots.items (into_wait_link c.args.around.routine c.args.around.depth (counts_of c.args.around.counts)) l c.in_ok-read.ensures.reads in
    let n = then_reads c.args.around.limits t.spots.items (assign_wait_link c.args.around.depth) m (c.in_ok-at.ensures.reads c.args.around.limits) in
    done c.args.around.limits t.spots.items n (c.in_ok-next-2.ensures.reads c.args.around.limits)
