use Rattle.std.proofs.Common.{◌≡◌, refl, arith, ap, ◌∙◌}
use Rattle.std.proofs.lemmas.Result.{on_ok_weaker}
use Rattle.flow_tree.specs.declared.stmt.StmtKind.TheVariants as kind
use Rattle.std.specs.Option.{option_map}
use Rattle.flow_tree.specs.View.{expr_of}
use Rattle.flow_tree.specs.StmtView.{simple_of, body_of, branches_of}
use Rattle.flow_class.specs.Scopes.{over}
use Rattle.flow_split.specs.Contexts.{names_in, slots_in, around_of}
use Rattle.flow_split.specs.Counts.{Next, past}
use Rattle.flow_split.specs.Lowered.{tested}
use Rattle.flow_split.specs.Emitting.{emitted, going, opened, out_of_scope}
use Rattle.flow_split.proofs.Compounds.{block_emits, if_emits, if_else_emits, loop_emits, while_emits}
use Rattle.flow_split.proofs.Bodies.{tested_block, try_emits, for_emits}
use Rattle.flow_split.proofs.Exits.{choose_emits}
use Rattle.flow_split.proofs.Loops.{in_own_scope, in_handler_scope, going_next, whole_body, part_none, part_some}
use Rattle.flow_split.proofs.Choices.{choose_waits, branching_next, all_branches}
use Rattle.flow_split.proofs.EachKind.{of_block, of_if, of_if_else, of_while, of_for, of_loop, of_break, of_continue, of_return, of_throw, of_try, of_choose, of_declare, of_assign, of_modify, of_call, of_wait}
use Rattle.flow_split.proofs.emitter.Emitter.+lower.Goals as goal

pub put_scope-returns : goal.put_scope-returns
put_scope-returns t c =
    in_own_scope (names_in c.args.context.now) (slots_in c.args.context.now) (around_of c.args.around.now) (body_of c.args.body.now) _ _ _ _ c.in_ok-enter.ensures c.in_ok-put_body.ensures
    c.leave.ensures

pub put_handler-returns : goal.put_handler-returns
put_handler-returns t c =
    in_handler_scope (names_in c.args.context.now) (slots_in c.args.context.now) (around_of c.args.around.now) c.args.error.now (body_of c.args.handler.now) _ _ _ _ c.in_ok-enter_catch.ensures
    c.in_ok-put_body.ensures c.leave.ensures

pub put_block-returns : goal.put_block-returns
put_block-returns t c at =
    block_emits _ _ _ _ _ _ _ at _ _ c.requires (omega (arith, c.in_ok-join.ensures, c.in_ok-block.ensures, c.in_ok-size.ensures.blocks)) c.in_ok-inner.ensures c.in_ok-put_scope.ensures
    c.begin.ensures

pub put_if-returns : goal.put_if-returns
put_if-returns t c at =
    if_emits _ _ _ _ _ _ _ _ _ at _ _ _ _ _ c.requires c.in_ok-main.ensures (omega (arith, c.in_ok-join.ensures, c.in_ok-main.ensures))
    refl c.in_ok-close_test.ensures c.begin.ensures c.in_ok-inner.ensures c.in_ok-put_scope.ensures c.begin-2.ensures

pub put_if_else-returns : goal.put_if_else-returns
put_if_else-returns t c at =
    if_else_emits _ _ _ _ _ _ _ _ _ _ _ at _ _ _ _ _ _ _ c.requires c.in_ok-main.ensures (omega (arith, c.in_ok-otherwise.ensures, c.in_ok-main.ensures))
    (omega (arith, c.in_ok-join.ensures, c.in_ok-otherwise.ensures, c.in_ok-main.ensures))
    refl c.in_ok-close_test.ensures c.begin.ensures c.in_ok-inner.ensures c.in_ok-put_scope.ensures c.begin-2.ensures c.in_ok-put_scope-2.ensures c.begin-3.ensures

pub put_loop-returns : goal.put_loop-returns
put_loop-returns t c at =
    loop_emits _ _ _ _ _ _ _ _ _ at _ _ _ c.requires c.in_ok-head.ensures (omega (arith, c.in_ok-out.ensures, c.in_ok-head.ensures))
    c.in_ok-close.ensures c.begin.ensures c.in_ok-inner.ensures c.in_ok-put_scope.ensures c.begin-2.ensures

pub put_while-returns : goal.put_while-returns
put_while-returns t c at =
    while_emits _ _ _ _ _ _ _ _ _ _ _ at _ _ _ _ _ _ c.requires c.in_ok-head.ensures (omega (arith, c.in_ok-main.ensures, c.in_ok-head.ensures))
    (omega (arith, c.in_ok-out.ensures, c.in_ok-main.ensures, c.in_ok-head.ensures))
    (ap (λ d. over (slots_in c.args.context.now) d.scopes (expr_of c.args.test.now)) (c.begin.ensures ∙ ap opened c.in_ok-close.ensures)) c.in_ok-close.ensures c.begin.ensures
    c.in_ok-close_test.ensures c.begin-2.ensures c.in_ok-inner.ensures c.in_ok-put_scope.ensures c.begin-3.ensures

pub put_try-returns : goal.put_try-returns
put_try-returns t c at catch =
    try_emits _ _ _ _ _ _ _ _ _ _ _ _ at catch _ _ _ _ _ _ _ c.requires c.in_ok-main.ensures
    (omega (arith, c.in_ok-block.ensures, c.in_ok-main.ensures, c.in_ok-size.ensures.blocks)) (omega (arith, c.in_ok-error_local.ensures, c.in_ok-size.ensures.locals))
    (omega (arith, c.in_ok-join.ensures, c.in_ok-block.ensures, c.in_ok-main.ensures, c.in_ok-size.ensures.blocks))
    c.in_ok-close.ensures c.begin.ensures c.in_ok-try_body.ensures c.in_ok-put_scope.ensures c.begin-2.ensures c.in_ok-catch_body.ensures c.in_ok-put_handler.ensures c.begin-3.ensures

pub put_for-returns : goal.put_for-returns
put_for-returns t c at =
    let h : Next = past (around_of c.args.around.now).looped.tried (simple_of c.args.init.now) (going (emitted c.args.self.now)) in
    let k : Next = tested (option_map expr_of c.args.test.now) h in
    let main : c.in_ok-main.main ≡ k.block =
    tested_block (names_in c.args.context.now) (slots_in c.args.context.now) (around_of c.args.around.now) (option_map expr_of c.args.test.now) h c.in_ok-main.main
    (omega (arith, c.in_ok-main.ensures, c.test_size.ensures, c.in_ok-head.ensures, c.in_ok-block.ensures)) in
    for_emits _ _ _ _ _ _ _ _ _ _ _ _ _ _ _ at _ _ _ _ _ _ _ _ c.requires (omega (arith, c.in_ok-head.ensures, c.in_ok-block.ensures)) main
    (omega (arith, c.in_ok-again.ensures, main))
    (omega (arith, c.in_ok-out.ensures, c.in_ok-past_part.ensures, c.in_ok-again.ensures, main))
    c.in_ok-part.ensures c.in_ok-inner.ensures c.in_ok-enter.ensures c.in_ok-put_part.ensures c.begin.ensures c.in_ok-put_test.ensures c.in_ok-put_scope.ensures c.begin-2.ensures
    c.in_ok-put_part-2.ensures
    c.begin-3.ensures (c.leave.ensures ∙ ap out_of_scope c.in_ok-drop_scope.ensures)

pub put_choose-returns : goal.put_choose-returns
put_choose-returns t c at =
    choose_emits _ _ _ _ _ _ _ _ at _ _ _ c.requires c.in_ok-first.ensures (omega (arith, c.in_ok-join.ensures, c.in_ok-first.ensures, c.in_ok-size.ensures.blocks)) c.in_ok-inner.ensures
    (choose_waits (names_in c.args.context.now) (slots_in c.args.context.now) (around_of c.args.around.now) (emitted c.args.self.now) _
    (branches_of c.args.branches.now) _ _ c.in_ok-first.ensures c.in_ok-callbacks.ensures c.in_ok-wait_for.ensures) c.in_ok-put_branches.ensures c.begin.ensures

pub put_body-loop-stmt-preserved : goal.put_body-loop-stmt-preserved
put_body-loop-stmt-preserved t c =
    going_next _ _ _ _ c.args.body.now c.loop-stmt.stmt-index c.stmt-item.result _ _ _ _ (omega (arith, c.loop-stmt-test.true)) c.stmt-item.is c.begin.ensures c.in_ok-put_stmt.ensures
    c.loop-stmt.invariant

pub put_body-returns : goal.put_body-returns
put_body-returns t c =
    on_ok_weaker c.finish_open.result (whole_body _ _ _ c.args.body.now c.loop-stmt.stmt-index _ _ _ c.requires (omega (arith, c.loop-stmt-test.false)) c.loop-stmt.invariant) c.finish_open.ensures

pub put_branches-loop-branch-preserved : goal.put_branches-loop-branch-preserved
put_branches-loop-branch-preserved t c =
    branching_next _ _ _ _ c.args.branches.now c.loop-branch.branch-index c.branch-item.result _ _ _ _
    (omega (arith, c.loop-branch-test.true)) c.branch-item.is c.begin.ensures c.in_ok-put_branch.ensures
    c.loop-branch.invariant

pub put_branches-returns : goal.put_branches-returns
put_branches-returns t c = all_branches _ _ _ c.args.branches.now c.loop-branch.branch-index _ _ (omega (arith, c.loop-branch-test.false)) c.loop-branch.invariant

pub put_part-returns-in-None : goal.put_part-returns-in-None
put_part-returns-in-None t c = on_ok_weaker c.finish_open.result (part_none _ _ _ _ _ _ c.in-None.is c.requires) c.finish_open.ensures

pub put_part-returns-in_ok-put_stmt-in-Some : goal.put_part-returns-in_ok-put_stmt-in-Some
put_part-returns-in_ok-put_stmt-in-Some t c =
    on_ok_weaker c.finish_open-in-Some.result (part_some _ _ _ _ _ _ _ _ _ c.in-Some.is c.deref.ensures c.requires c.in_ok-put_stmt-in-Some.ensures) c.finish_open-in-Some.ensures

pub put_stmt-returns-in-Block : goal.put_stmt-returns-in-Block
put_stmt-returns-in-Block t c = on_ok_weaker c.put_block.result (of_block _ _ _ c.args.stmt.now _ _ c.in-Block.body _ c.in-Block.is c.deref.ensures.value) c.put_block.ensures

pub put_stmt-returns-in-While : goal.put_stmt-returns-in-While
put_stmt-returns-in-While t c = on_ok_weaker c.put_while.result (of_while _ _ _ c.args.stmt.now _ _ c.in-While.test c.in-While.body _ c.in-While.is c.deref-in-While.ensures.value) c.put_while.ensures

pub put_stmt-returns-in-Loop : goal.put_stmt-returns-in-Loop
put_stmt-returns-in-Loop t c = on_ok_weaker c.put_loop.result (of_loop _ _ _ c.args.stmt.now _ _ c.in-Loop.body _ c.in-Loop.is c.deref-in-Loop.ensures.value) c.put_loop.ensures

pub put_stmt-returns-in-For : goal.put_stmt-returns-in-For
put_stmt-returns-in-For t c = on_ok_weaker c.put_for.result (of_for _ _ _ c.args.stmt.now _ _ c.in-For.init c.in-For.test c.in-For.step c.in-For.body _ c.in-For.is c.deref-in-For.ensures.value)
    c.put_for.ensures

pub put_stmt-returns-in-Try : goal.put_stmt-returns-in-Try
put_stmt-returns-in-Try t c = on_ok_weaker c.put_try.result (of_try _ _ _ c.args.stmt.now _ _ c.in-Try.body _ c.in-Try.error c.in-Try.handler _ _ c.in-Try.is c.deref-in-Try.ensures.value
    c.deref-in-Try-2.ensures.value) c.put_try.ensures

pub put_stmt-returns-in-Choose : goal.put_stmt-returns-in-Choose
put_stmt-returns-in-Choose t c = on_ok_weaker c.put_choose.result (of_choose _ _ _ c.args.stmt.now _ _ c.in-Choose.branches _ c.in-Choose.is c.deref-in-Choose.ensures.value) c.put_choose.ensures

pub put_stmt-returns-in-Wait : goal.put_stmt-returns-in-Wait
put_stmt-returns-in-Wait t c = on_ok_weaker c.put_wait.result (of_wait _ _ _ c.args.stmt.now _ _ c.in-Wait.waiting c.in-Wait.is) c.put_wait.ensures

pub put_stmt-returns-in-Break : goal.put_stmt-returns-in-Break
put_stmt-returns-in-Break t c = on_ok_weaker c.exit_loop.result (of_break _ _ _ c.args.stmt.now _ _ c.in-Break.is c.requires) c.exit_loop.ensures

pub put_stmt-returns-in-Continue : goal.put_stmt-returns-in-Continue
put_stmt-returns-in-Continue t c = on_ok_weaker c.exit_loop-in-Continue.result (of_continue _ _ _ c.args.stmt.now _ _ c.in-Continue.is c.requires) c.exit_loop-in-Continue.ensures

pub put_stmt-returns-in-Return : goal.put_stmt-returns-in-Return
put_stmt-returns-in-Return t c = on_ok_weaker c.put_return.result (of_return _ _ _ c.args.stmt.now _ _ c.in-Return.value c.in-Return.is c.requires) c.put_return.ensures

pub put_stmt-returns-in-Throw : goal.put_stmt-returns-in-Throw
put_stmt-returns-in-Throw t c = on_ok_weaker c.put_throw.result (of_throw _ _ _ c.args.stmt.now _ _ c.in-Throw.error c.in-Throw.is c.requires) c.put_throw.ensures

pub put_stmt-returns-in-Declare : goal.put_stmt-returns-in-Declare
put_stmt-returns-in-Declare t c = on_ok_weaker c.put_declare.result (of_declare _ _ _ c.args.stmt.now _ _ c.in-Declare.into c.in-Declare.value c.in-Declare.is c.requires) c.put_declare.ensures

pub put_stmt-returns-in-Assign : goal.put_stmt-returns-in-Assign
put_stmt-returns-in-Assign t c = on_ok_weaker c.put_assign.result (of_assign _ _ _ c.args.stmt.now _ _ c.in-Assign.target c.in-Assign.value c.in-Assign.is c.requires) c.put_assign.ensures

pub put_stmt-returns-in-Modify : goal.put_stmt-returns-in-Modify
put_stmt-returns-in-Modify t c = on_ok_weaker c.put_modify.result (of_modify _ _ _ c.args.stmt.now _ _ c.in-Modify.target c.in-Modify.change c.in-Modify.is c.requires) c.put_modify.ensures

pub put_stmt-returns-in-Call : goal.put_stmt-returns-in-Call
put_stmt-returns-in-Call t c = on_ok_weaker c.put_call.result (of_call _ _ _ c.args.stmt.now _ _ c.in-Call.target c.in-Call.args _ c.in-Call.is c.deref-in-Call.ensures.value c.requires)
    c.put_call.ensures

pub put_stmt-returns-in-None : goal.put_stmt-returns-in-None
put_stmt-returns-in-None t c =
    on_ok_weaker c.put_if.result (of_if _ _ _ c.args.stmt.now _ _ c.in-If.test c.in-If.body _ (c.in-If.is ∙ ap (λ o. kind.If c.in-If.test c.in-If.body o) c.in-None.is) c.deref-in-None.ensures.value)
    c.put_if.ensures

pub put_stmt-returns-in-Some : goal.put_stmt-returns-in-Some
put_stmt-returns-in-Some t c =
    on_ok_weaker c.put_if_else.result
    (of_if_else _ _ _ c.args.stmt.now _ _ c.in-If.test c.in-If.body _ _ _ (c.in-If.is ∙ ap (λ o. kind.If c.in-If.test c.in-If.body o) c.in-Some.is) c.deref-in-Some.ensures.value
    c.deref-in-Some-2.ensures.value)
    c.put_if_else.ensures
