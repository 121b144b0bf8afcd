use Rattle.std.proofs.Common.{rules, inl, inr, sym, subst, ◌∙◌}
use Rattle.flow_steps.specs.Waiting.{callbacks_of, register_all, Registers}
use Rattle.flow_steps.specs.declared.process.Process.{Process}
use Rattle.flow_steps.specs.Stuck.{FrameMissing}
use Rattle.flow_steps.specs.StuckWaits.{WaitsStuck, first_stuck, frameless}
use Rattle.flow_steps.proofs.Holding.{if_stuck_weaker, on_stuck_weaker}
use Rattle.flow_steps.proofs.Before.{lost_still}
use Rattle.flow_steps.proofs.Amiss.{registered_still}
use Rattle.flow_steps.proofs.Waits.{wait_suspended}
use Rattle.flow_steps.proofs.process.Process.wait.Goals as goal

pub returns-clause-done : goal.returns-clause-done
returns-clause-done c =
    let p = c.args.self.now in
    let i = c.args.stand.now.actor.0 in
    wait_suspended c.args.stand.now c.args.group p c.register_all.new.self _ _ _ (sym c.in_default.is ∙ c.first_ready.ensures)
    (subst (λ b. Registers (register_all i (callbacks_of i p.heap) p.heap) b p c.register_all.new.self) c.if-not-branch.false c.in_ok-register_all.ensures.done)
    c.in_ok-lose_locals.ensures.lost c.in_ok-suspend.ensures.done c.tell.ensures

pub returns-in_err-branch-clause-stuck : goal.returns-in_err-branch-clause-stuck
returns-in_err-branch-clause-stuck c =
    let h = if_stuck_weaker c.in_err-branch.field-0.0 _ (WaitsStuck c.args.stand.now c.args.self.now.heap)
    (λ m. first_stuck c.in-Some.held (sym c.in-Some.ensures) (inl m)) c.in_err-branch.ensures.stuck in
    search (rules, h)

pub returns-in-Some-clause-stuck : goal.returns-in-Some-clause-stuck
returns-in-Some-clause-stuck c =
    on_stuck_weaker c.take.result _ (WaitsStuck c.args.stand.now c.args.self.now.heap) (λ m. first_stuck c.in-Some.held (sym c.in-Some.ensures) (inr m))
    c.take.ensures.stuck

pub returns-then-not-branch-clause-stuck : goal.returns-then-not-branch-clause-stuck
returns-then-not-branch-clause-stuck c =
    let p = c.args.self.now in
    let i = c.args.stand.now.actor.0 in
    on_stuck_weaker c.leave_for.result _ (WaitsStuck c.args.stand.now p.heap)
    (λ m. frameless (registered_still i i (callbacks_of i p.heap) _ p c.register_all.new.self c.in_ok-register_all.ensures.done m))
    c.leave_for.ensures.stuck

pub returns-in_err-lose_locals-clause-stuck : goal.returns-in_err-lose_locals-clause-stuck
returns-in_err-lose_locals-clause-stuck c =
    let p = c.args.self.now in
    let i = c.args.stand.now.actor.0 in
    let h = if_stuck_weaker c.in_err-lose_locals.field-0.0 _ (WaitsStuck c.args.stand.now p.heap)
    (λ m. frameless (registered_still i i (callbacks_of i p.heap) _ p c.register_all.new.self c.in_ok-register_all.ensures.done m))
    c.in_err-lose_locals.ensures.stuck in
    search (rules, h)

pub returns-in_err-suspend-clause-stuck : goal.returns-in_err-suspend-clause-stuck
returns-in_err-suspend-clause-stuck c =
    let p = c.args.self.now in
    let i = c.args.stand.now.actor.0 in
    let h = if_stuck_weaker c.in_err-suspend.field-0.0 _ (WaitsStuck c.args.stand.now p.heap)
    (λ m. frameless (registered_still i i (callbacks_of i p.heap) _ p c.register_all.new.self c.in_ok-register_all.ensures.done
    (lost_still i c.args.stand.now.class.now.slots i c.register_all.new.self.heap
    (subst (λ (x : Process). FrameMissing i x.heap) c.in_ok-lose_locals.ensures.lost m)))) c.in_err-suspend.ensures.stuck in
    search (rules, h)
