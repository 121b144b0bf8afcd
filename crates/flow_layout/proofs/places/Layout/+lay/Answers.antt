use Rattle.std.proofs.Common.{arith, refl, sym, ◌∙◌}
use Rattle.flow_layout.specs.Laying.{laid}
use Rattle.flow_layout.proofs.Lays.{after_block, after_while, after_loop, after_if, after_for, after_try, after_choose, after_declare, after_wait, next_branch}
use Rattle.flow_layout.proofs.places.Layout.+lay.Goals as goal

pub lay_branches-loop-branch-preserved : goal.lay_branches-loop-branch-preserved
lay_branches-loop-branch-preserved t c =
    next_branch c.args.branches.now c.loop-branch.branch-index c.branch-item.result _ _ _ _ _ (omega (arith, c.loop-branch-test.true)) c.branch-item.is c.deref.ensures.value
    c.in_ok-lay_maybe.ensures c.in_ok-lay_body.ensures c.loop-branch.invariant

pub lay_stmt-returns-in_ok-lay_body-in-Block : goal.lay_stmt-returns-in_ok-lay_body-in-Block
lay_stmt-returns-in_ok-lay_body-in-Block t c = after_block c.args.stmt.now _ _ _ _ c.in-Block.is c.deref.ensures.value c.in_ok-lay_body-in-Block.ensures

pub lay_stmt-returns-in_ok-lay_else-in-If : goal.lay_stmt-returns-in_ok-lay_else-in-If
lay_stmt-returns-in_ok-lay_else-in-If t c =
    after_if c.args.stmt.now _ _ c.in-If.otherwise _ _ _ _ c.in-If.is c.deref-in-If.ensures.value c.in_ok-lay_body-in-If.ensures c.in_ok-lay_else-in-If.ensures

pub lay_stmt-returns-in_ok-lay_body-in-While : goal.lay_stmt-returns-in_ok-lay_body-in-While
lay_stmt-returns-in_ok-lay_body-in-While t c = after_while c.args.stmt.now _ _ _ _ _ c.in-While.is c.deref-in-While.ensures.value c.in_ok-lay_body-in-While.ensures

pub lay_stmt-returns-in_ok-lay_body-in-For : goal.lay_stmt-returns-in_ok-lay_body-in-For
lay_stmt-returns-in_ok-lay_body-in-For t c =
    after_for c.args.stmt.now c.in-For.init _ c.in-For.step _ _ _ _ _ _ c.in-For.is c.deref-in-For.ensures.value c.in_ok-lay_part-in-For.ensures c.in_ok-lay_part-in-For-2.ensures
    c.in_ok-lay_body-in-For.ensures

pub lay_stmt-returns-in_ok-lay_body-in-Loop : goal.lay_stmt-returns-in_ok-lay_body-in-Loop
lay_stmt-returns-in_ok-lay_body-in-Loop t c = after_loop c.args.stmt.now _ _ _ _ c.in-Loop.is c.deref-in-Loop.ensures.value c.in_ok-lay_body-in-Loop.ensures

pub lay_stmt-returns-in_ok-lay_body-in-Try-2 : goal.lay_stmt-returns-in_ok-lay_body-in-Try-2
lay_stmt-returns-in_ok-lay_body-in-Try-2 t c =
    after_try c.args.stmt.now _ _ _ _ _ _ _ _ _ _ c.in-Try.is c.deref-in-Try.ensures.value c.deref-in-Try-2.ensures.value c.in_ok-lay_body-in-Try.ensures
    c.in_ok-lay_error-in-Try.ensures c.in_ok-lay_body-in-Try-2.ensures

pub lay_stmt-returns-in_ok-lay_branches-in-Choose : goal.lay_stmt-returns-in_ok-lay_branches-in-Choose
lay_stmt-returns-in_ok-lay_branches-in-Choose t c =
    after_choose c.args.stmt.now c.in-Choose.branches _ _ _ _ _ c.in-Choose.is c.deref-in-Choose.ensures.value
    (omega (arith, c.len.ensures, c.in-Choose.branches.ok)) c.in_ok-lay_group-in-Choose.ensures
    c.in_ok-lay_branches-in-Choose.ensures

pub lay_stmt-returns-in_ok-lay_into-in-Declare : goal.lay_stmt-returns-in_ok-lay_into-in-Declare
lay_stmt-returns-in_ok-lay_into-in-Declare t c = after_declare c.args.stmt.now c.in-Declare.into _ _ _ c.in-Declare.is c.in_ok-lay_into-in-Declare.ensures

pub lay_stmt-returns-in_ok-lay_maybe-in-Wait : goal.lay_stmt-returns-in_ok-lay_maybe-in-Wait
lay_stmt-returns-in_ok-lay_maybe-in-Wait t c = after_wait c.args.stmt.now c.in-Wait.waiting _ _ _ c.in-Wait.is c.in_ok-lay_group-in-Wait.ensures c.in_ok-lay_maybe-in-Wait.ensures
