use Rattle.std.proofs.lemmas.Result.{err_from_is_err_and}
use Rattle.flow_parse.proofs.Leaves.{then_reads, done, first_fails, fails}
use Rattle.flow_parse.proofs.Variables.{test_left, test_link, expr_link}
use Rattle.flow_parse.proofs.simple.test.Goals as goal

pub returns-in_err-at-clause-reads : goal.returns-in_err-at-clause-reads
returns-in_err-at-clause-reads c = λ limits.
    let t = c.args.tokens.now in
    let l = test_left limits t c.args.at c.args.depth c.requires.within in
    let p = err_from_is_err_and c.from_residual.result c.from_residual.ensures.1 in
    rw (p.1, p.2) (first_fails limits t (test_link c.args.depth) l c.in_err-at.field-0.0 (c.in_err-at.ensures.reads limits))

pub returns-in_err-test-clause-reads : goal.returns-in_err-test-clause-reads
returns-in_err-test-clause-reads c = λ limits.
    let t = c.args.tokens.now in
    let l = test_left limits t c.args.at c.args.depth c.requires.within in
    let m = then_reads limits t.spots.items (test_link c.args.depth) l (c.in_ok-at.ensures.reads limits) in
    let p = err_from_is_err_and c.from_residual-in_err-test.result c.from_residual-in_err-test.ensures.1 in
    rw (p.1, p.2) (first_fails limits t (expr_link c.args.depth) m c.in_err-test.field-0.0 (c.in_err-test.ensures.reads limits))

pub returns-in_err-to-clause-reads : goal.returns-in_err-to-clause-reads
returns-in_err-to-clause-reads c = λ limits.
    let t = c.args.tokens.now in
    let l = test_left limits t c.args.at c.args.depth c.requires.within in
    let m = then_reads limits t.spots.items (test_link c.args.depth) l (c.in_ok-at.ensures.reads limits) in
    let n = then_reads limits t.spots.items (expr_link c.args.depth) m (c.in_ok-test.ensures.reads limits) in
    let p = err_from_is_err_and c.from_residual-in_err-to.result c.from_residual-in_err-to.ensures.1 in
    rw (p.1, p.2) (fails limits t n c.in_err-to.field-0.0 (c.in_err-to.ensures.reads limits))

pub returns-clause-reads : goal.returns-clause-reads
returns-clause-reads c = λ limits.
    let t = c.args.tokens.now in
    let l = test_left limits t c.args.at c.args.depth c.requires.within in
    let m = then_reads limits t.spots.items (test_link c.args.depth) l (c.in_ok-at.ensures.reads limits) in
    let n = then_reads limits t.spots.items (expr_link c.args.depth) m (c.in_ok-test.ensures.reads limits) in
    done limits t.spots.items n (c.in_ok-to.ensures.reads limits)
