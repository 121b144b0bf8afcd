use Rattle.std.proofs.Common.{rules, sym}
use Rattle.flow_steps.specs.Tasks.{all_spent, task_asks, task_done}
use Rattle.flow_steps.specs.StuckTasks.{TasksStuck, task_now, task_later}
use Rattle.flow_steps.proofs.Done.{rested_by, top_taken}
use Rattle.flow_steps.proofs.Holding.{if_stuck_weaker}
use Rattle.flow_steps.proofs.process.Process.run_tasks.Goals as goal

pub returns-then-self-clause-done : goal.returns-then-self-clause-done
returns-then-self-clause-done c = c.loop-step.invariant.0 _ _ (all_spent _ c.if-self.true)

pub returns-in_default-clause-done : goal.returns-in_default-clause-done
returns-in_default-clause-done c =
    c.loop-step.invariant.0 _ _ (rested_by c.args.code.now c.loop-step.self c.next_task.new.self c.if-self.false c.in_default.ensures.task c.in_default.ensures.rest)

pub returns-in_err-do_task-clause-stuck : goal.returns-in_err-do_task-clause-stuck
returns-in_err-do_task-clause-stuck c =
    let p = c.loop-step.self in
    let h = if_stuck_weaker c.in_err-do_task.field-0.0 _ (TasksStuck c.args.code.now c.args.self.now)
    (λ m. c.loop-step.invariant.1 (task_now p (record p { heap = c.next_task.new.self }) c.in-Some.task c.if-self.false
    (top_taken p c.next_task.new.self c.in-Some.task c.in-Some.ensures.task c.in-Some.ensures.rest) m)) c.in_err-do_task.ensures.stuck in
    search (rules, h)

pub returns-then-is_some-clause-done : goal.returns-then-is_some-clause-done
returns-then-is_some-clause-done c =
    let p = c.loop-step.self in
    c.loop-step.invariant.0 _ _ (task_asks p (record p { heap = c.next_task.new.self }) c.do_task.new.self c.in-Some.task c.if-self.false
    (top_taken p c.next_task.new.self c.in-Some.task c.in-Some.ensures.task c.in-Some.ensures.rest) c.in_ok-do_task.ensures.done (sym c.if-is_some.ensures))

pub loop-step-preserved : goal.loop-step-preserved
loop-step-preserved c = (
  λ n q r.
      let p = c.loop-step.self in
      c.loop-step.invariant.0 n q (task_done p (record p { heap = c.next_task.new.self }) c.do_task.new.self q c.in-Some.task n c.if-self.false
      (top_taken p c.next_task.new.self c.in-Some.task c.in-Some.ensures.task c.in-Some.ensures.rest) c.in_ok-do_task.ensures.done (sym c.if-is_some.ensures) r),
  λ m.
      let p = c.loop-step.self in
      c.loop-step.invariant.1 (task_later p (record p { heap = c.next_task.new.self }) c.do_task.new.self c.in-Some.task c.if-self.false
      (top_taken p c.next_task.new.self c.in-Some.task c.in-Some.ensures.task c.in-Some.ensures.rest) c.in_ok-do_task.ensures.done (sym c.if-is_some.ensures) m),
)
