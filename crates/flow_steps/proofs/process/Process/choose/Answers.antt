use Rattle.std.proofs.Common.{rules, slice_get, ap, ◌+◌, ◌∙◌}
use Rattle.flow_steps.proofs.Stepped.{operand_asked, operands_kept}
use Rattle.flow_steps.specs.StuckSteps.{ChoosesStuck}
use Rattle.flow_steps.proofs.Going.{operand_gets_stuck, wait_gets_stuck}
use Rattle.flow_steps.proofs.Holding.{if_stuck_weaker, on_stuck_weaker}
use Rattle.flow_steps.proofs.process.Process.choose.Goals as goal

pub returns-in_default-branch_in-clause-done : goal.returns-in_default-branch_in-clause-done
returns-in_default-branch_in-clause-done c =
    operands_kept _ _ c.in_ok-stand.stand _ _ _ c.note.new.self _ c.in-Some.ensures c.in_ok-stand.ensures.stand c.in_ok-stand.ensures.noted
    (c.in_default-branch_in.ensures ∙ ap (slice_get c.in-Some.group.now.branches.items) c.operands-kept.ensures) c.in_ok-wait.ensures.done

pub returns-clause-done : goal.returns-clause-done
returns-clause-done c =
    operand_asked _ _ c.in_ok-stand.stand _ _ c.in-Some-branch_in.branch.now c.in_ok-callback.callback _ _ c.note.new.self _ c.in-Some.ensures c.in_ok-stand.ensures.stand
    c.in_ok-stand.ensures.noted (c.in-Some-branch_in.ensures ∙ ap (slice_get c.in-Some.group.now.branches.items) c.operands-kept.ensures)
    (c.in_ok-callback.ensures.done ∙ ap (λ n. c.in-Some.group.now.first + n) c.operands-kept.ensures) c.operand.ensures.done

pub returns-in_err-wait-clause-stuck : goal.returns-in_err-wait-clause-stuck
returns-in_err-wait-clause-stuck c =
    let h = if_stuck_weaker c.in_err-wait.field-0.0 _ (ChoosesStuck c.args.code.now c.args.stand.now c.args.number c.args.self.now)
    (wait_gets_stuck c.args.code.now c.args.stand.now c.in_ok-stand.stand c.args.number c.in-Some.group.now c.args.self.now c.note.new.self c.in-Some.ensures c.in_ok-stand.ensures.stand
    c.in_ok-stand.ensures.noted (c.in_default-branch_in.ensures ∙ ap (slice_get c.in-Some.group.now.branches.items) c.operands-kept.ensures)) c.in_err-wait.ensures.stuck in
    search (rules, h)

pub returns-clause-stuck : goal.returns-clause-stuck
returns-clause-stuck c =
    on_stuck_weaker c.operand.result _ _
    (operand_gets_stuck c.args.code.now c.args.stand.now c.in_ok-stand.stand c.args.number c.in-Some.group.now c.args.self.now c.note.new.self c.in-Some-branch_in.branch.now
    c.in_ok-callback.callback c.in-Some.ensures c.in_ok-stand.ensures.stand c.in_ok-stand.ensures.noted
    (c.in-Some-branch_in.ensures ∙ ap (slice_get c.in-Some.group.now.branches.items) c.operands-kept.ensures)
    (c.in_ok-callback.ensures.done ∙ ap (λ n. c.in-Some.group.now.first + n) c.operands-kept.ensures)) c.operand.ensures.stuck
