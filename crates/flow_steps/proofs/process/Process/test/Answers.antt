use Rattle.flow_steps.specs.Stepping.{truth_value, truth_for}
use Rattle.flow_steps.specs.StuckCalls.{EvaluatesStuck, rest_stuck}
use Rattle.flow_steps.specs.StuckSteps.{TestStuck}
use Rattle.flow_steps.proofs.Holding.{if_stuck_weaker}
use Rattle.std.proofs.Common.{rules, true, false}
use Rattle.flow_steps.proofs.Evaluating.{test_done, truth_breaks, truth_stuck}
use Rattle.flow_steps.proofs.Stepped.{goes_at}
use Rattle.flow_steps.proofs.process.Process.test.Goals as goal

pub returns-in_ok-at-in-Ok-true-clause-done : goal.returns-in_ok-at-in-Ok-true-clause-done
returns-in_ok-at-in-Ok-true-clause-done c =
    test_done c.args.stand.now c.args.self.now c.truth.new.self c.args.self.now _ true c.args.yes c.args.no c.in_ok-at-in-Ok-true.field-0
    (rw c.in-Ok-true.field-0-test at c.in-Ok-true.ensures.gives) c.in-Ok-true.ensures.rest (goes_at _ _ _ _ c.in_ok-at-in-Ok-true.ensures.done)

pub returns-in_ok-at-in-Ok-false-clause-done : goal.returns-in_ok-at-in-Ok-false-clause-done
returns-in_ok-at-in-Ok-false-clause-done c =
    test_done c.args.stand.now c.args.self.now c.truth.new.self c.args.self.now _ false c.args.yes c.args.no c.in_ok-at-in-Ok-false.field-0
    (rw c.in-Ok-false.field-0-test at c.in-Ok-false.ensures.gives) c.in-Ok-false.ensures.rest (goes_at _ _ _ _ c.in_ok-at-in-Ok-false.ensures.done)

pub returns-in-Err-clause-done : goal.returns-in-Err-clause-done
returns-in-Err-clause-done c = truth_breaks _ _ _ _ _ _ _ _ c.in-Err.ensures.gives c.in-Err.ensures.rest c.halted.ensures.off c.halted.ensures.halted

pub returns-in-Err-clause-stuck : goal.returns-in-Err-clause-stuck
returns-in-Err-clause-stuck c = truth_stuck _ _ _ _ _ _ _ c.in-Err.ensures.gives c.in-Err.ensures.rest c.halted.ensures.stuck

pub returns-in_err-at-in-Ok-true-clause-stuck : goal.returns-in_err-at-in-Ok-true-clause-stuck
returns-in_err-at-in-Ok-true-clause-stuck c =
    let s = c.args.stand.now in
    let p = c.args.self.now in
    let h = if_stuck_weaker c.in_err-at-in-Ok-true.field-0.0 _
    (EvaluatesStuck s truth_value (truth_for c.args.code.now s.actor.0 c.args.expr.now p) p (TestStuck s c.args.yes c.args.no))
    (λ m. rest_stuck true c.truth.new.self.left (rw c.in-Ok-true.field-0-test at c.in-Ok-true.ensures.gives) m) c.in_err-at-in-Ok-true.ensures.stuck in
    search (rules, h)

pub returns-in_err-at-in-Ok-false-clause-stuck : goal.returns-in_err-at-in-Ok-false-clause-stuck
returns-in_err-at-in-Ok-false-clause-stuck c =
    let s = c.args.stand.now in
    let p = c.args.self.now in
    let h = if_stuck_weaker c.in_err-at-in-Ok-false.field-0.0 _
    (EvaluatesStuck s truth_value (truth_for c.args.code.now s.actor.0 c.args.expr.now p) p (TestStuck s c.args.yes c.args.no))
    (λ m. rest_stuck false c.truth.new.self.left (rw c.in-Ok-false.field-0-test at c.in-Ok-false.ensures.gives) m) c.in_err-at-in-Ok-false.ensures.stuck in
    search (rules, h)
