use Rattle.std.proofs.Common.{rules, subst}
use Rattle.flow_steps.specs.declared.frames.ControlPoint.{ControlPoint}
use Rattle.flow_steps.specs.Stuck.{OnStuck, FrameMissing}
use Rattle.flow_steps.specs.StuckSteps.{SetStuck}
use Rattle.flow_steps.proofs.Going.{set_aims, set_after}
use Rattle.flow_steps.proofs.Holding.{if_stuck_weaker, on_stuck_weaker}
use Rattle.flow_steps.proofs.Stepped.{set_by}
use Rattle.flow_steps.proofs.process.Process.set_value.Goals as goal

pub returns-clause-done : goal.returns-clause-done
returns-clause-done c =
    set_by _ _ _ _ _ c.in_ok-old.old _ _ _ _ _ c.in_ok-hold_value.ensures.done c.in_ok-old.ensures.done c.in_ok-next.ensures.done c.on_after.ensures.done

pub returns-in_err-old-clause-stuck : goal.returns-in_err-old-clause-stuck
returns-in_err-old-clause-stuck c =
    let h = if_stuck_weaker c.in_err-old.field-0.0 _ (SetStuck c.args.code.now c.args.stand.now c.args.aim.now c.args.value c.args.self.now)
    (set_aims c.args.code.now c.args.stand.now c.args.aim.now c.args.value c.args.self.now c.hold_value.new.self c.in_ok-hold_value.ensures.done)
    c.in_err-old.ensures.stuck in
    search (rules, h)

pub returns-clause-stuck : goal.returns-clause-stuck
returns-clause-stuck c =
    let h = subst (λ (t : ControlPoint). OnStuck c.on_after.result (FrameMissing t.actor.0 c.assign.new.self.heap)) c.in_ok-next.ensures.done c.on_after.ensures.stuck in
    on_stuck_weaker c.on_after.result _ _
    (set_after c.args.code.now c.args.stand.now c.args.aim.now c.args.value c.args.self.now c.hold_value.new.self c.in_ok-old.old c.assign.new.self
    c.in_ok-hold_value.ensures.done c.in_ok-old.ensures.done) h
