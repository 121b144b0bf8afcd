use Rattle.std.proofs.Common.{rules}
use Rattle.flow_steps.specs.StuckTasks.{WaiterStuck}
use Rattle.flow_steps.specs.Doing.{doing}
use Rattle.flow_cancel.specs.declared.task.Task.TheVariants.{Fire}
use Rattle.flow_steps.proofs.Holding.{if_stuck_weaker, on_stuck_weaker}
use Rattle.flow_steps.proofs.TasksAmiss.{waiter_nowhere, waiter_stuck, waiter_takes_stuck}
use Rattle.flow_steps.proofs.process.Process.fire_to.Goals as goal

pub returns-in_err-stand-clause-stuck : goal.returns-in_err-stand-clause-stuck
returns-in_err-stand-clause-stuck c =
    let h = if_stuck_weaker c.in_err-stand.field-0.0 _
    (WaiterStuck c.args.code.now c.args.cell c.args.waiter (doing (Fire c.args.cell) c.args.self.now))
    (waiter_nowhere c.args.code.now c.args.cell c.args.waiter c.args.self.now _ c.in_ok-push.ensures) c.in_err-stand.ensures.stuck in
    search (rules, h)

pub returns-in_err-branch-clause-stuck : goal.returns-in_err-branch-clause-stuck
returns-in_err-branch-clause-stuck c =
    let h = if_stuck_weaker c.in_err-branch.field-0.0 _
    (WaiterStuck c.args.code.now c.args.cell c.args.waiter (doing (Fire c.args.cell) c.args.self.now))
    (waiter_stuck c.args.code.now c.args.cell c.args.waiter c.in_ok-stand.stand c.args.self.now _ c.in_ok-push.ensures c.in_ok-stand.ensures.done) c.in_err-branch.ensures.stuck in
    search (rules, h)

pub returns-clause-stuck : goal.returns-clause-stuck
returns-clause-stuck c =
    on_stuck_weaker c.take.result _ _
    (waiter_takes_stuck c.args.code.now c.args.cell c.args.waiter c.in_ok-stand.stand c.args.self.now _ c.in_ok-push.ensures c.in_ok-stand.ensures.done) c.take.ensures.stuck
