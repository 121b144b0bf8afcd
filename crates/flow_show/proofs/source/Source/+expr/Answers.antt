use Rattle.std.proofs.Common.{◌++◌, ap, ◌∙◌, arith}
use Rattle.std.proofs.lemmas.Result.{IfOk-weaker}
use Rattle.std.specs.Prelude.{codes}
use Rattle.flow_tree.specs.View.{expr_of, exprs_of}
use Rattle.flow_tree.specs.Canon.{expr_text, args_text}
use Rattle.flow_tree.proofs.Views.{expr_call, expr_field, expr_method, expr_index, expr_not, expr_neg, expr_binary, expr_paren}
use Rattle.flow_show.proofs.Texts.{one_by_one, args_step, method_text, index_text, binary_text}
use Rattle.flow_show.proofs.source.Source.+expr.Goals as goal

pub put_more_args-loop-arg-preserved : goal.put_more_args-loop-arg-preserved
put_more_args-loop-arg-preserved t c =
    args_step c.args.args.now c.loop-arg.arg-index c.arg-item.result _ _ _ _ (omega (arith, c.loop-arg-test.true)) c.arg-item.is c.loop-arg.invariant
    c.in_ok-put.ensures c.in_ok-put_expr.ensures

pub put_expr-returns-in-Call : goal.put_expr-returns-in-Call
put_expr-returns-in-Call t c =
    rw (c.in-Call.is, expr_call c.in-Call.name c.in-Call.args)
    (rw c.deref.ensures.value at c.put_function_call.ensures)

pub put_expr-returns-in-Field : goal.put_expr-returns-in-Field
put_expr-returns-in-Field t c =
    rw (c.in-Field.is, expr_field c.in-Field.of c.in-Field.name)
    (rw c.deref-in-Field.ensures at c.put_field.ensures)

pub put_expr-returns-in-Index : goal.put_expr-returns-in-Index
put_expr-returns-in-Index t c =
    rw (c.in-Index.is, expr_index c.in-Index.of c.in-Index.index)
    (rw (c.deref-in-Index.ensures, c.deref-in-Index-2.ensures) at c.put_index.ensures)

pub put_index-returns : goal.put_index-returns
put_index-returns t c =
    IfOk-weaker c.put-2.result _ _
    (λ done last. index_text (expr_of c.args.of.now) (expr_of c.args.index.now) c.args.self.now _ _ _ _ c.in_ok-put_expr.ensures c.in_ok-put.ensures c.in_ok-put_expr-2.ensures last)
    c.put-2.ensures

pub put_expr-returns-in-Not : goal.put_expr-returns-in-Not
put_expr-returns-in-Not t c =
    rw (c.in-Not.is, expr_not c.in-Not.of)
    (rw c.deref-in-Not.ensures at c.put_not.ensures)

pub put_expr-returns-in-Neg : goal.put_expr-returns-in-Neg
put_expr-returns-in-Neg t c =
    rw (c.in-Neg.is, expr_neg c.in-Neg.of)
    (rw c.deref-in-Neg.ensures at c.put_negated.ensures)

pub put_expr-returns-in_ok-put_field-in-Method : goal.put_expr-returns-in_ok-put_field-in-Method
put_expr-returns-in_ok-put_field-in-Method t c =
    let e = c.in-Method.of in
    let es = c.in-Method.args in
    rw (c.in-Method.is, expr_method e c.in-Method.name es)
    (IfOk-weaker c.put_args.result _ _
    (λ done more. method_text c.args.self.now c.put_field-in-Method.new.self c.put_args.new.self _ _ c.in-Method.name.name _ _ c.in_ok-put_field-in-Method.ensures
    (ap (λ x. expr_text (expr_of x)) c.deref-in-Method.ensures) more (ap (λ l. args_text (exprs_of l)) c.deref-in-Method-2.ensures.value))
    c.put_args.ensures)

pub put_expr-returns-in_ok-put_expr-in-Binary : goal.put_expr-returns-in_ok-put_expr-in-Binary
put_expr-returns-in_ok-put_expr-in-Binary t c =
    rw (c.in-Binary.is, expr_binary c.in-Binary.op c.in-Binary.left c.in-Binary.right)
    (IfOk-weaker c.put_right.result _ _
    (λ done more. binary_text c.args.self.now c.put_expr.new.self c.put_right.new.self _ _ _ _ _ c.in_ok-put_expr-in-Binary.ensures
    (ap (λ x. expr_text (expr_of x)) c.deref-in-Binary.ensures) more (ap (λ x. expr_text (expr_of x)) c.deref-in-Binary-2.ensures))
    c.put_right.ensures)

pub put_expr-returns-in_ok-put_expr-in-Paren : goal.put_expr-returns-in_ok-put_expr-in-Paren
put_expr-returns-in_ok-put_expr-in-Paren t c =
    rw (c.in-Paren.is, expr_paren c.in-Paren.of)
    (IfOk-weaker c.put-in-Paren-2.result _ _
    (λ done last. one_by_one c.args.self.now c.put-in-Paren.new.self c.put_expr-in-Paren.new.self c.put-in-Paren-2.new.self (codes "(") (expr_text (expr_of c.in-Paren.of.value))
    (codes ")") c.in_ok-put-in-Paren.ensures
    (c.in_ok-put_expr-in-Paren.ensures ∙ ap (λ x. c.put-in-Paren.new.self ++ expr_text (expr_of x)) c.deref-in-Paren.ensures) last)
    c.put-in-Paren-2.ensures)
