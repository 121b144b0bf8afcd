use Rattle.std.proofs.Common.{sym, ap, ◌∙◌, append-nil, arith}
use Rattle.std.proofs.lemmas.Result.{IfOk-weaker}
use Rattle.flow_tree.specs.View.{expr_of, exprs_of}
use Rattle.flow_tree.proofs.Views.{expr_call, expr_field, expr_method, expr_index, expr_not, expr_neg, expr_binary, expr_paren}
use Rattle.flow_staterule.specs.Uses.{expr_uses, exprs_uses}
use Rattle.flow_staterule.specs.View.{in_force}
use Rattle.flow_staterule.proofs.Adding.{two_added, exprs_next, exprs_end}
use Rattle.flow_staterule.proofs.mentions.+mentions.Goals as goal

pub add_expr-returns-in-Call : goal.add_expr-returns-in-Call
add_expr-returns-in-Call t c =
    rw (c.in-Call.is, expr_call) (rw c.deref.ensures.value at c.add_exprs.ensures)

pub add_expr-returns-in-Field : goal.add_expr-returns-in-Field
add_expr-returns-in-Field t c =
    rw (c.in-Field.is, expr_field) (rw c.deref-in-Field.ensures at c.add_expr.ensures)

pub add_expr-returns-in-Not : goal.add_expr-returns-in-Not
add_expr-returns-in-Not t c =
    rw (c.in-Not.is, expr_not) (rw c.deref-in-Not.ensures at c.add_expr-in-Not.ensures)

pub add_expr-returns-in-Neg : goal.add_expr-returns-in-Neg
add_expr-returns-in-Neg t c =
    rw (c.in-Neg.is, expr_neg) (rw c.deref-in-Neg.ensures at c.add_expr-in-Neg.ensures)

pub add_expr-returns-in-Paren : goal.add_expr-returns-in-Paren
add_expr-returns-in-Paren t c =
    rw (c.in-Paren.is, expr_paren) (rw c.deref-in-Paren.ensures at c.add_expr-in-Paren.ensures)

pub add_expr-returns-in_ok-add_expr-in-Method : goal.add_expr-returns-in_ok-add_expr-in-Method
add_expr-returns-in_ok-add_expr-in-Method t c =
    let vs = in_force c.args.variables.now in
    rw (c.in-Method.is, expr_method)
    (IfOk-weaker c.add_exprs-in-Method.result _ _
    (λ done more. two_added c.args.found.now.items c.add_expr-in-Method.new.found.items c.add_exprs-in-Method.new.found.items _ _ _ _ c.in_ok-add_expr-in-Method.ensures
    (ap (λ e. expr_uses vs c.args.point (expr_of e)) c.deref-in-Method.ensures) more (ap (λ l. exprs_uses vs c.args.point (exprs_of l)) c.deref-in-Method-2.ensures.value))
    c.add_exprs-in-Method.ensures)

pub add_expr-returns-in_ok-add_expr-in-Index : goal.add_expr-returns-in_ok-add_expr-in-Index
add_expr-returns-in_ok-add_expr-in-Index t c =
    let vs = in_force c.args.variables.now in
    rw (c.in-Index.is, expr_index)
    (IfOk-weaker c.add_expr-in-Index-2.result _ _
    (λ done more. two_added c.args.found.now.items c.add_expr-in-Index.new.found.items c.add_expr-in-Index-2.new.found.items _ _ _ _ c.in_ok-add_expr-in-Index.ensures
    (ap (λ e. expr_uses vs c.args.point (expr_of e)) c.deref-in-Index.ensures) more
    (ap (λ e. expr_uses vs c.args.point (expr_of e)) c.deref-in-Index-2.ensures ∙ sym (append-nil (expr_uses vs c.args.point (expr_of c.in-Index.index.value)))))
    c.add_expr-in-Index-2.ensures)

pub add_expr-returns-in_ok-add_expr-in-Binary : goal.add_expr-returns-in_ok-add_expr-in-Binary
add_expr-returns-in_ok-add_expr-in-Binary t c =
    let vs = in_force c.args.variables.now in
    rw (c.in-Binary.is, expr_binary)
    (IfOk-weaker c.add_expr-in-Binary-2.result _ _
    (λ done more. two_added c.args.found.now.items c.add_expr-in-Binary.new.found.items c.add_expr-in-Binary-2.new.found.items _ _ _ _ c.in_ok-add_expr-in-Binary.ensures
    (ap (λ e. expr_uses vs c.args.point (expr_of e)) c.deref-in-Binary.ensures) more (ap (λ e. expr_uses vs c.args.point (expr_of e)) c.deref-in-Binary-2.ensures))
    c.add_expr-in-Binary-2.ensures)

pub add_exprs-loop-expr-preserved : goal.add_exprs-loop-expr-preserved
add_exprs-loop-expr-preserved t c =
    exprs_next (in_force c.args.variables.now) c.args.point c.args.exprs.now c.loop-expr.expr-index c.expr-item.result _ _ _
    (omega (arith, c.loop-expr-test.true)) c.expr-item.is c.in_ok-add_expr.ensures c.loop-expr.invariant

pub add_exprs-returns : goal.add_exprs-returns
add_exprs-returns t c =
    exprs_end (in_force c.args.variables.now) c.args.point c.args.exprs.now c.loop-expr.expr-index _ _ (omega (arith, c.loop-expr-test.false)) c.loop-expr.invariant
