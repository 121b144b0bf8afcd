use Rattle.std.proofs.lemmas.Result.{err_from_is_err_and}
use Rattle.flow_tree.specs.Body.{End}
use Rattle.flow_tree.specs.StmtView.{stmt_of}
use Rattle.flow_parse.proofs.Leaves.{then_reads, first_fails, answer_done}
use Rattle.flow_parse.proofs.Unended.{assignment_left, assigned_link, path_change_link}
use Rattle.flow_parse.proofs.stmt.assignment.Goals as goal

pub returns-in_err-first-clause-reads : goal.returns-in_err-first-clause-reads
returns-in_err-first-clause-reads c = λ limits.
    let t = c.args.tokens.now in
    let p = err_from_is_err_and c.from_residual.result c.from_residual.ensures.1 in
    rw (p.1, p.2) (first_fails limits t (assigned_link c.args.depth) (assignment_left limits t c.args.at c.args.depth c.requires.within) c.in_err-first.field-0.0 (c.in_err-first.ensures.reads limits))

pub returns-in_err-path-clause-reads : goal.returns-in_err-path-clause-reads
returns-in_err-path-clause-reads c = λ limits.
    let t = c.args.tokens.now in
    let l = then_reads limits t.spots.items (assigned_link c.args.depth) (assignment_left limits t c.args.at c.args.depth c.requires.within) (c.in_ok-first.ensures.reads limits) in
    let p = err_from_is_err_and c.from_residual-in_err-path.result c.from_residual-in_err-path.ensures.1 in
    rw (p.1, p.2) (first_fails limits t (path_change_link c.args.depth c.in_ok-first.first) l c.in_err-path.field-0.0 (c.in_err-path.ensures.reads limits))

pub returns-clause-reads : goal.returns-clause-reads
returns-clause-reads c = λ limits.
    let t = c.args.tokens.now in
    let l = then_reads limits t.spots.items (assigned_link c.args.depth) (assignment_left limits t c.args.at c.args.depth c.requires.within) (c.in_ok-first.ensures.reads limits) in
    let m = then_reads limits t.spots.items (path_change_link c.args.depth c.in_ok-first.first) l (c.in_ok-path.ensures.reads limits) in
    answer_done limits (λ r. stmt_of r.0 End) (λ r. r.1) t m c.change.result (c.change.ensures.reads limits)
