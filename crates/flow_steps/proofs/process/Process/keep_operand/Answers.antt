use Rattle.std.proofs.Common.{rules, ◌≡◌, true, inl, inr, subst}
use Rattle.flow_frame.specs.Frames.{with_callback}
use Rattle.flow_steps.specs.declared.process.Process.{Process}
use Rattle.flow_steps.specs.Waiting.{ready_at}
use Rattle.flow_steps.specs.Stuck.{FrameMissing}
use Rattle.flow_steps.specs.StuckWaits.{TakesStuck, KeepsStuck, no_frame, when_ready}
use Rattle.flow_steps.proofs.Holding.{if_stuck_weaker}
use Rattle.flow_steps.proofs.Before.{with_frame_still}
use Rattle.flow_steps.proofs.Amiss.{kept_takes}
use Rattle.flow_steps.proofs.process.Process.keep_operand.Goals as goal

pub returns-in_err-leave_for-clause-stuck : goal.returns-in_err-leave_for-clause-stuck
returns-in_err-leave_for-clause-stuck c =
    let s = c.args.stand.now in
    let x = c.args.held in
    let now = c.args.self.now.heap in
    let i = s.actor.0 in
    let h = if_stuck_weaker c.in_err-leave_for.field-0.0 _ (KeepsStuck s x now)
    (λ m. no_frame (with_frame_still (λ f. with_callback f x) i i now (subst (λ (y : Process). FrameMissing i y.heap) c.in_ok-add_operand.ensures.done m)))
    c.in_err-leave_for.ensures.stuck in
    search (rules, h)

pub returns-in_err-branch-clause-stuck : goal.returns-in_err-branch-clause-stuck
returns-in_err-branch-clause-stuck c =
    let now = c.args.self.now.heap in
    let ready : ready_at c.args.held.cell.0 now ≡ true = search rules in
    let h = if_stuck_weaker c.in_err-branch.field-0.0 _ (KeepsStuck c.args.stand.now c.args.held now) (λ m. when_ready ready (inl m))
    c.in_err-branch.ensures.stuck in
    search (rules, h)

pub returns-in_err-take-clause-stuck : goal.returns-in_err-take-clause-stuck
returns-in_err-take-clause-stuck c =
    let s = c.args.stand.now in
    let x = c.args.held in
    let now = c.args.self.now.heap in
    let ready : ready_at x.cell.0 now ≡ true = search rules in
    let h = if_stuck_weaker c.in_err-take.field-0.0 _ (KeepsStuck s x now)
    (λ m. when_ready ready (inr (kept_takes s s.actor.0 x.cell.0 x now
    (subst (λ (y : Process). TakesStuck s x.cell.0 y.heap) c.in_ok-add_operand.ensures.done m)))) c.in_err-take.ensures.stuck in
    search (rules, h)
