use Rattle.std.proofs.lemmas.Result.{err_from_is_err_and}
use Rattle.flow_parse.proofs.Leaves.{then_reads, done, fails, first_fails}
use Rattle.flow_parse.proofs.Stmts.{catch_left, catch_word, catch_open, catch_error, catch_amp, catch_name}
use Rattle.flow_parse.proofs.stmt.catch.Goals as goal

pub returns-in_err-at-clause-reads : goal.returns-in_err-at-clause-reads
returns-in_err-at-clause-reads c = λ limits.
    let t = c.args.tokens.now in
    let s = t.spots.items in
    let l0 = catch_left limits t c.args.at c.requires.within in
    let p = err_from_is_err_and c.from_residual.result c.from_residual.ensures.1 in
    rw (p.1, p.2) (first_fails limits t catch_word l0 c.in_err-at.field-0.0 (c.in_err-at.ensures.reads limits))

pub returns-in_err-at-2-clause-reads : goal.returns-in_err-at-2-clause-reads
returns-in_err-at-2-clause-reads c = λ limits.
    let t = c.args.tokens.now in
    let s = t.spots.items in
    let l0 = catch_left limits t c.args.at c.requires.within in
    let l1 = then_reads limits s catch_word l0 (c.in_ok-at.ensures.reads limits) in
    let p = err_from_is_err_and c.from_residual-in_err-at-2.result c.from_residual-in_err-at-2.ensures.1 in
    rw (p.1, p.2) (first_fails limits t catch_open l1 c.in_err-at-2.field-0.0 (c.in_err-at-2.ensures.reads limits))

pub returns-in_err-at-3-clause-reads : goal.returns-in_err-at-3-clause-reads
returns-in_err-at-3-clause-reads c = λ limits.
    let t = c.args.tokens.now in
    let s = t.spots.items in
    let l0 = catch_left limits t c.args.at c.requires.within in
    let l1 = then_reads limits s catch_word l0 (c.in_ok-at.ensures.reads limits) in
    let l2 = then_reads limits s catch_open l1 (c.in_ok-at-2.ensures.reads limits) in
    let p = err_from_is_err_and c.from_residual-in_err-at-3.result c.from_residual-in_err-at-3.ensures.1 in
    rw (p.1, p.2) (first_fails limits t catch_error l2 c.in_err-at-3.field-0.0 (c.in_err-at-3.ensures.reads limits))

pub returns-in_err-at-4-clause-reads : goal.returns-in_err-at-4-clause-reads
returns-in_err-at-4-clause-reads c = λ limits.
    let t = c.args.tokens.now in
    let s = t.spots.items in
    let l0 = catch_left limits t c.args.at c.requires.within in
    let l1 = then_reads limits s catch_word l0 (c.in_ok-at.ensures.reads limits) in
    let l2 = then_reads limits s catch_open l1 (c.in_ok-at-2.ensures.reads limits) in
    let l3 = then_reads limits s catch_error l2 (c.in_ok-at-3.ensures.reads limits) in
    let p = err_from_is_err_and c.from_residual-in_err-at-4.result c.from_residual-in_err-at-4.ensures.1 in
    rw (p.1, p.2) (first_fails limits t catch_amp l3 c.in_err-at-4.field-0.0 (c.in_err-at-4.ensures.reads limits))

pub returns-in_err-error-clause-reads : goal.returns-in_err-error-clause-reads
returns-in_err-error-clause-reads c = λ limits.
    let t = c.args.tokens.now in
    let s = t.spots.items in
    let l0 = catch_left limits t c.args.at c.requires.within in
    let l1 = then_reads limits s catch_word l0 (c.in_ok-at.ensures.reads limits) in
    let l2 = then_reads limits s catch_open l1 (c.in_ok-at-2.ensures.reads limits) in
    let l3 = then_reads limits s catch_error l2 (c.in_ok-at-3.ensures.reads limits) in
    let l4 = then_reads limits s catch_amp l3 (c.in_ok-at-4.ensures.reads limits) in
    let p = err_from_is_err_and c.from_residual-in_err-error.result c.from_residual-in_err-error.ensures.1 in
    rw (p.1, p.2) (first_fails limits t catch_name l4 c.in_err-error.field-0.0 (c.in_err-error.ensures.reads limits))

pub returns-in_err-to-clause-reads : goal.returns-in_err-to-clause-reads
returns-in_err-to-clause-reads c = λ limits.
    let t = c.args.tokens.now in
    let s = t.spots.items in
    let l0 = catch_left limits t c.args.at c.requires.within in
    let l1 = then_reads limits s catch_word l0 (c.in_ok-at.ensures.reads limits) in
    let l2 = then_reads limits s catch_open l1 (c.in_ok-at-2.ensures.reads limits) in
    let l3 = then_reads limits s catch_error l2 (c.in_ok-at-3.ensures.reads limits) in
    let l4 = then_reads limits s catch_amp l3 (c.in_ok-at-4.ensures.reads limits) in
    let l5 = then_reads limits s catch_name l4 (c.in_ok-error.ensures.reads limits) in
    let p = err_from_is_err_and c.from_residual-in_err-to.result c.from_residual-in_err-to.ensures.1 in
    rw (p.1, p.2) (fails limits t l5 c.in_err-to.field-0.0 (c.in_err-to.ensures.reads limits))

pub returns-clause-reads : goal.returns-clause-reads
returns-clause-reads c = λ limits.
    let t = c.args.tokens.now in
    let s = t.spots.items in
    let l0 = catch_left limits t c.args.at c.requires.within in
    let l1 = then_reads limits s catch_word l0 (c.in_ok-at.ensures.reads limits) in
    let l2 = then_reads limits s catch_open l1 (c.in_ok-at-2.ensures.reads limits) in
    let l3 = then_reads limits s catch_error l2 (c.in_ok-at-3.ensures.reads limits) in
    let l4 = then_reads limits s catch_amp l3 (c.in_ok-at-4.ensures.reads limits) in
    let l5 = then_reads limits s catch_name l4 (c.in_ok-error.ensures.reads limits) in
    rw c.place-here.ensures (done limits s l5 (c.in_ok-to.ensures.reads limits))
