use Rattle.std.proofs.Common.{[], ap, ap₂, ◌∙◌}
use Rattle.std.proofs.lemmas.Result.{IfOk-weaker}
use Rattle.flow_tree.specs.StmtView.{body_of}
use Rattle.flow_warning.specs.Walks.{alone, in_turn, round}
use Rattle.flow_warning.proofs.Found.{found_for, found_loop, found_try, found_choose, found_declare, found_wait}
use Rattle.flow_warning.proofs.find.+warnings.Goals as goal

pub add_stmt-returns-in_ok-add_endless_for-in-For : goal.add_stmt-returns-in_ok-add_endless_for-in-For
add_stmt-returns-in_ok-add_endless_for-in-For t c =
    IfOk-weaker c.add_body-in-For.result _ _
    (λ done more. found_for c.args.stmt.now c.in-For.init c.in-For.test c.in-For.step c.in-For.body _ _ (body_of c.args.behind.now) _ _ _ _ _ c.in-For.is
    c.deref-in-For.ensures.value c.deref-in-For-3.ensures.value c.in_ok-add_init-in-For.ensures
    (c.onward-round.ensures
    ∙ ap₂ in_turn (c.round.ensures ∙ ap round (c.alone-in-For.ensures ∙ ap (λ l. alone [] (body_of l)) c.deref-in-For-2.ensures.value)) c.alone_part.ensures)
    c.in_ok-add_endless_for-in-For.ensures more)
    c.add_body-in-For.ensures

pub add_stmt-returns-in_ok-add_endless-in-Loop : goal.add_stmt-returns-in_ok-add_endless-in-Loop
add_stmt-returns-in_ok-add_endless-in-Loop t c =
    IfOk-weaker c.add_body-in-Loop.result _ _
    (λ done more. found_loop c.args.stmt.now c.in-Loop.body _ (body_of c.args.behind.now) _ _ _ _ c.in-Loop.is c.deref-in-Loop-2.ensures.value
    (c.alone-in-Loop.ensures ∙ ap (λ l. alone [] (body_of l)) c.deref-in-Loop.ensures.value) c.in_ok-add_endless-in-Loop.ensures more)
    c.add_body-in-Loop.ensures

pub add_stmt-returns-in_ok-add_body-in-Try : goal.add_stmt-returns-in_ok-add_body-in-Try
add_stmt-returns-in_ok-add_body-in-Try t c =
    IfOk-weaker c.add_body-in-Try-2.result _ _
    (λ done more. found_try c.args.stmt.now c.in-Try.body _ _ c.in-Try.handler _ _ (body_of c.args.behind.now) _ _ _ c.in-Try.is c.deref-in-Try.ensures.value
    c.deref-in-Try-2.ensures.value c.in_ok-add_body-in-Try.ensures more)
    c.add_body-in-Try-2.ensures

pub add_stmt-returns-in-Choose : goal.add_stmt-returns-in-Choose
add_stmt-returns-in-Choose t c =
    IfOk-weaker c.add_branches.result _ _
    (λ done more. found_choose c.args.stmt.now c.in-Choose.branches _ (body_of c.args.behind.now) _ _ c.in-Choose.is c.deref-in-Choose.ensures.value more)
    c.add_branches.ensures

pub add_stmt-returns-in-Declare : goal.add_stmt-returns-in-Declare
add_stmt-returns-in-Declare t c =
    IfOk-weaker c.add_into.result _ _ (λ done more. found_declare c.args.stmt.now c.in-Declare.into c.in-Declare.field-1 (body_of c.args.behind.now) _ _ c.in-Declare.is more)
    c.add_into.ensures

pub add_stmt-returns-in-Wait : goal.add_stmt-returns-in-Wait
add_stmt-returns-in-Wait t c =
    IfOk-weaker c.add_wait.result _ _ (λ done more. found_wait c.args.stmt.now c.in-Wait.waiting (body_of c.args.behind.now) _ _ c.in-Wait.is more) c.add_wait.ensures
