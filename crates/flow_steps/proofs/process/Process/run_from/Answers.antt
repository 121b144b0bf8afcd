use Rattle.std.proofs.Common.{rules, subst}
use Rattle.flow_steps.specs.Stepping.{StepsOn, runs_on, runs_off}
use Rattle.flow_steps.specs.StuckSteps.{step_now, step_later}
use Rattle.flow_steps.proofs.Holding.{if_stuck_weaker}
use Rattle.flow_steps.proofs.process.Process.run_from.Goals as goal

pub returns-in-Off-clause-done : goal.returns-in-Off-clause-done
returns-in-Off-clause-done c =
    c.loop-step.invariant.0 _ (runs_off _ _ _
    (subst (λ pace. StepsOn c.args.code.now c.loop-step.stand c.loop-step.self pace c.take_step.new.self) c.in-Off.is c.in_ok-next.ensures.done))

pub loop-step-preserved : goal.loop-step-preserved
loop-step-preserved c =
    let step = subst (λ pace. StepsOn c.args.code.now c.loop-step.stand c.loop-step.self pace c.take_step.new.self) c.in-On.is c.in_ok-next.ensures.done in (
      (λ q r. c.loop-step.invariant.0 q (runs_on _ _ _ _ _ step r)),
      (λ m. c.loop-step.invariant.1 (step_later _ _ _ _ step m)),
    )

pub returns-in_err-next-clause-stuck : goal.returns-in_err-next-clause-stuck
returns-in_err-next-clause-stuck c =
    let h = if_stuck_weaker c.in_err-next.field-0.0 _ _ (λ m. c.loop-step.invariant.1 (step_now _ _ m)) c.in_err-next.ensures.stuck in
    search (rules, h)
