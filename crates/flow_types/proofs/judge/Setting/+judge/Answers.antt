use Rattle.std.proofs.Common.{false, [], ◌∷◌, ◌+◌, drop, sym, ap, ap₂, ◌∙◌}
use Rattle.std.specs.Option.{option_map}
use Rattle.flow_tree.specs.Tree.{ByName, BoolType, IntType, MethodExpr, indexed}
use Rattle.flow_tree.specs.View.{exprs_of, expr_of}
use Rattle.flow_rules.specs.Least.{lesser}
use Rattle.flow_rules.specs.Judged.{fault, form, faults, fits, calls, calls_on, placed, called_on, indexed_on}
use Rattle.flow_types.specs.View.{found_of, callee_of, needs_view}
use Rattle.flow_types.specs.SettingView.{setting_view}
use Rattle.flow_types.proofs.Calls.{call_is, method_is, wanted_is, sign_is}
use Rattle.flow_types.proofs.Steps.{args_step, args_end}
use Rattle.flow_types.proofs.ExprKinds.{is_call, is_method, is_index, is_not, is_negative, is_binary}
use Rattle.flow_types.proofs.judge.Setting.+judge.Goals as goal

pub judge-returns-in-Call-clause-fault : goal.judge-returns-in-Call-clause-fault
judge-returns-in-Call-clause-fault h c =
    let s = setting_view c.args.self.now in
    let es = exprs_of c.in-Call.args.items in
    let callee = option_map callee_of c.called-callee.result in
    let needs = needs_view c.needs_of.result in
    call_is s c.args.whole c.in-Call.name.name es callee needs c.judge_args-judged.result c.call_judged.result.fault
    c.called-callee.ensures c.needs_of.ensures
    (c.judge_args-judged.ensures ∙ ap (λ l. faults s 0 needs (exprs_of l)) c.deref.ensures.value)
    (c.call_judged.ensures.fault ∙ ap (λ l. lesser c.judge_args-judged.result (calls (exprs_of l) callee (placed s c.args.whole))) c.deref-in-Call.ensures.value)
    ∙ sym (ap (fault s c.args.whole) (is_call c.args.expr.now c.in-Call.name c.in-Call.args c.in-Call.is))

pub judge-returns-in-Method-clause-fault : goal.judge-returns-in-Method-clause-fault
judge-returns-in-Method-clause-fault h c =
    let s = setting_view c.args.self.now in
    let m = c.in-Method.name.name in
    c.judge_method.ensures.fault
    ∙ ap (λ l. fault s false (MethodExpr (expr_of c.deref-in-Method.result.now) (ByName c.in-Method.name) (exprs_of l))) c.deref-in-Method-2.ensures.value
    ∙ ap (λ x. fault s false (MethodExpr (expr_of x) (ByName c.in-Method.name) (exprs_of c.in-Method.args.items))) c.deref-in-Method.ensures
    ∙ sym (ap (fault s c.args.whole) (is_method c.args.expr.now c.in-Method.of c.in-Method.name c.in-Method.args c.in-Method.is))

pub judge_method-returns-clause-fault : goal.judge_method-returns-clause-fault
judge_method-returns-clause-fault h c =
    let s = setting_view c.args.self.now in
    let e = expr_of c.args.of.now in
    let t = option_map found_of c.judge-base.result.form in
    method_is s t (λ v. called_on v c.args.name.now.name) (exprs_of c.args.args.now) (option_map callee_of c.called_on-callee.result) (needs_view c.needs_of.result) c.judge-base.result.fault c.judge_args-judged.result
    c.method_judged.result.fault
    (fault s false e) (form s e) c.judge-base.ensures.form c.judge-base.ensures.fault
    (c.called_on-callee.ensures ∙ ap (called_on t) c.bytes.ensures.bytes) c.needs_of.ensures c.judge_args-judged.ensures c.method_judged.ensures.fault

pub judge-returns-in-Index-clause-fault : goal.judge-returns-in-Index-clause-fault
judge-returns-in-Index-clause-fault h c =
    let s = setting_view c.args.self.now in
    c.judge_index.ensures.fault
    ∙ ap₂ (λ x y. fault s false (indexed (expr_of x) (expr_of y))) c.deref-in-Index.ensures c.deref-in-Index-2.ensures
    ∙ sym (ap (fault s c.args.whole) (is_index c.args.expr.now c.in-Index.of c.in-Index.index c.in-Index.is))

pub judge_index-returns-clause-fault : goal.judge_index-returns-clause-fault
judge_index-returns-clause-fault h c =
    let s = setting_view c.args.self.now in
    let e = expr_of c.args.of.now in
    let es = exprs_of (c.args.index.now ∷ []) in
    let t = option_map found_of c.judge-base.result.form in
    method_is s t indexed_on es (option_map callee_of c.indexed_on-callee.result) (needs_view c.needs_of.result) c.judge-base.result.fault c.judge_args-judged.result
    c.method_judged.result.fault
    (fault s false e) (form s e) c.judge-base.ensures.form c.judge-base.ensures.fault c.indexed_on-callee.ensures c.needs_of.ensures
    (c.judge_args-judged.ensures ∙ ap (λ l. faults s 0 (needs_view c.needs_of.result) (exprs_of l)) c.from_ref-args.ensures.value)
    (c.method_judged.ensures.fault
    ∙ ap (λ l. lesser c.judge-base.result.fault (lesser c.judge_args-judged.result (calls_on t (exprs_of l) (option_map callee_of c.indexed_on-callee.result) (placed s false))))
    c.from_ref-args.ensures.value)

pub judge-returns-in-Not-clause-fault : goal.judge-returns-in-Not-clause-fault
judge-returns-in-Not-clause-fault h c =
    let s = setting_view c.args.self.now in
    let e = expr_of c.in-Not.of.value in
    wanted_is BoolType c.judge-of.result.fault c.wants.result c.lesser.result (fault s false e)
    (option_map found_of c.judge-of.result.form) (form s e)
    (c.judge-of.ensures.fault ∙ ap (λ x. fault s false (expr_of x)) c.deref-in-Not.ensures)
    (c.judge-of.ensures.form ∙ ap (λ x. form s (expr_of x)) c.deref-in-Not.ensures)
    c.wants.ensures c.lesser.ensures
    ∙ sym (ap (fault s c.args.whole) (is_not c.args.expr.now c.in-Not.of c.in-Not.is))

pub judge-returns-in-Neg-clause-fault : goal.judge-returns-in-Neg-clause-fault
judge-returns-in-Neg-clause-fault h c =
    let s = setting_view c.args.self.now in
    let e = expr_of c.in-Neg.of.value in
    wanted_is IntType c.judge-of-in-Neg.result.fault c.wants-in-Neg.result c.lesser-in-Neg.result (fault s false e)
    (option_map found_of c.judge-of-in-Neg.result.form) (form s e)
    (c.judge-of-in-Neg.ensures.fault ∙ ap (λ x. fault s false (expr_of x)) c.deref-in-Neg.ensures)
    (c.judge-of-in-Neg.ensures.form ∙ ap (λ x. form s (expr_of x)) c.deref-in-Neg.ensures)
    c.wants-in-Neg.ensures c.lesser-in-Neg.ensures
    ∙ sym (ap (fault s c.args.whole) (is_negative c.args.expr.now c.in-Neg.of c.in-Neg.is))

pub judge-returns-in-Binary-clause-fault : goal.judge-returns-in-Binary-clause-fault
judge-returns-in-Binary-clause-fault h c =
    let s = setting_view c.args.self.now in
    let a = expr_of c.in-Binary.left.value in
    let b = expr_of c.in-Binary.right.value in
    sign_is c.in-Binary.op c.judge-left.result.fault c.judge-right.result.fault c.sign_judged.result.fault (fault s false a) (fault s false b)
    (option_map found_of c.judge-left.result.form) (option_map found_of c.judge-right.result.form) (form s a) (form s b)
    (c.judge-left.ensures.fault ∙ ap (λ x. fault s false (expr_of x)) c.deref-in-Binary.ensures)
    (c.judge-right.ensures.fault ∙ ap (λ x. fault s false (expr_of x)) c.deref-in-Binary-2.ensures)
    (c.judge-left.ensures.form ∙ ap (λ x. form s (expr_of x)) c.deref-in-Binary.ensures)
    (c.judge-right.ensures.form ∙ ap (λ x. form s (expr_of x)) c.deref-in-Binary-2.ensures)
    c.sign_judged.ensures.fault
    ∙ sym (ap (fault s c.args.whole) (is_binary c.args.expr.now c.in-Binary.op c.in-Binary.left c.in-Binary.right c.in-Binary.is))

pub judge_args-loop-number-preserved : goal.judge_args-loop-number-preserved
judge_args-loop-number-preserved h c =
    let s = setting_view c.args.self.now in
    let ns = needs_view c.args.needs in
    ap (λ x. lesser x (faults s (c.loop-number.number + 1) ns (exprs_of (drop (c.loop-number.number + 1) c.args.args.now)))) c.lesser-fault.ensures
    ∙ args_step s ns c.args.args.now c.loop-number.number c.index-args-number.result c.loop-number.fault c.lesser.result _ c.loop-number-test.true c.index-args-number.is
    (c.lesser.ensures ∙ ap₂ lesser c.judge-judged.ensures.fault (c.fits.ensures ∙ ap₂ fits c.judge-judged.ensures.form c.at.ensures)) c.loop-number.invariant

pub judge_args-returns : goal.judge_args-returns
judge_args-returns h c =
    args_end (setting_view c.args.self.now) (needs_view c.args.needs) c.args.args.now c.loop-number.number c.loop-number.fault _ c.loop-number-test.false c.loop-number.invariant
