use Rattle.std.proofs.Common.{rules, inl, inr, subst, ◌⊎◌}
use Rattle.flow_steps.specs.declared.frames.ControlPoint.{ControlPoint}
use Rattle.flow_steps.specs.Stuck.{OnStuck, FrameMissing}
use Rattle.flow_steps.specs.StuckSteps.{NoVectorAt}
use Rattle.flow_steps.proofs.Holding.{if_stuck_weaker, on_stuck_weaker}
use Rattle.flow_steps.proofs.InPlace.{aims_at_none, cleared_by, frame_before_change}
use Rattle.flow_steps.proofs.process.Process.clear.Goals as goal

pub returns-in_err-old-clause-stuck : goal.returns-in_err-old-clause-stuck
returns-in_err-old-clause-stuck c =
    let i = c.args.stand.now.actor in
    let h = if_stuck_weaker c.in_err-old.field-0.0 _ (NoVectorAt c.args.code.now i.0 c.args.aim.now c.args.self.now ⊎ FrameMissing i.0 c.args.self.now.heap)
    (λ m. inl (aims_at_none c.args.code.now i c.args.aim.now c.args.self.now m)) c.in_err-old.ensures.stuck in
    search (rules, h)

pub returns-clause-done : goal.returns-clause-done
returns-clause-done c =
    cleared_by c.args.code.now c.args.stand.now c.in_ok-next.next c.args.aim.now c.in-Some.ensures.done.0 c.in_ok-empty.empty c.new.result.items c.in_ok-old.old _
    c.args.self.now c.assign.new.self c.on_after.new.self
    c.in-Some.ensures.done.1 c.in_ok-empty.ensures c.new.ensures.items c.in_ok-old.ensures.done c.in_ok-next.ensures.done c.on_after.ensures.done

pub returns-clause-stuck : goal.returns-clause-stuck
returns-clause-stuck c =
    let i = c.args.stand.now.actor in
    let h = subst (λ (t : ControlPoint). OnStuck c.on_after.result (FrameMissing t.actor.0 c.assign.new.self.heap)) c.in_ok-next.ensures.done c.on_after.ensures.stuck in
    on_stuck_weaker c.on_after.result _ (NoVectorAt c.args.code.now i.0 c.args.aim.now c.args.self.now ⊎ FrameMissing i.0 c.args.self.now.heap)
    (λ m. inr (frame_before_change c.args.code.now i c.args.aim.now c.in_ok-empty.empty c.in_ok-old.old c.args.self.now c.assign.new.self c.in_ok-old.ensures.done m)) h
