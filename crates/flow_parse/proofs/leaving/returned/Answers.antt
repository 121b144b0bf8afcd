use Rattle.std.proofs.Common.{refl, sym}
use Rattle.std.proofs.lemmas.Result.{err_from_is_err_and}
use Rattle.flow_tree.specs.View.{expr_of}
use Rattle.std.specs.Option.{option_map}
use Rattle.flow_parse.specs.Reading.{token_at}
use Rattle.flow_parse.proofs.Leaves.{then_reads, done, fails, first_fails, answer_become}
use Rattle.flow_parse.proofs.Stmts.{returned_left, maybe_returned_turns, value_semicolon}
use Rattle.flow_parse.proofs.leaving.returned.Goals as goal

pub returns-then-has_bare_return-clause-reads : goal.returns-then-has_bare_return-clause-reads
returns-then-has_bare_return-clause-reads c = λ limits.
    let t = c.args.tokens.now in
    answer_become limits (λ r. option_map expr_of r.0) (λ r. r.1) t c.args.at c.requires.within refl
    (maybe_returned_turns c.args.home c.args.depth (token_at t.spots.items c.args.at) (sym c.if-has_bare_return.ensures)) c.maybe_expr.result (c.maybe_expr.ensures.reads limits)

pub returns-in_err-value-clause-reads : goal.returns-in_err-value-clause-reads
returns-in_err-value-clause-reads c = λ limits.
    let t = c.args.tokens.now in
    let l = returned_left limits t c.args.at c.args.home c.args.depth c.requires.within (sym c.if-has_bare_return.ensures) in
    let p = err_from_is_err_and c.from_residual.result c.from_residual.ensures.1 in
    rw (p.1, p.2) (first_fails limits t (value_semicolon c.args.depth) l c.in_err-value.field-0.0 (c.in_err-value.ensures.reads limits))

pub returns-in_err-to-clause-reads : goal.returns-in_err-to-clause-reads
returns-in_err-to-clause-reads c = λ limits.
    let t = c.args.tokens.now in
    let l = then_reads limits t.spots.items (value_semicolon c.args.depth) (returned_left limits t c.args.at c.args.home c.args.depth c.requires.within (sym c.if-has_bare_return.ensures))
    (c.in_ok-value.ensures.reads limits) in
    let p = err_from_is_err_and c.from_residual-in_err-to.result c.from_residual-in_err-to.ensures.1 in
    rw (p.1, p.2) (fails limits t l c.in_err-to.field-0.0 (c.in_err-to.ensures.reads limits))

pub returns-clause-reads : goal.returns-clause-reads
returns-clause-reads c = λ limits.
    let t = c.args.tokens.now in
    let l = then_reads limits t.spots.items (value_semicolon c.args.depth) (returned_left limits t c.args.at c.args.home c.args.depth c.requires.within (sym c.if-has_bare_return.ensures))
    (c.in_ok-value.ensures.reads limits) in
    done limits t.spots.items l (c.in_ok-to.ensures.reads limits)
