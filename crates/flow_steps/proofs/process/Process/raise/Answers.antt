use Rattle.std.proofs.Common.{rules}
use Rattle.flow_steps.specs.StuckTasks.{RaisedStuck, nowhere, standing}
use Rattle.flow_steps.proofs.Holding.{if_stuck_weaker}
use Rattle.flow_steps.proofs.Done.{raised_by}
use Rattle.flow_steps.proofs.process.Process.raise.Goals as goal

pub returns-clause-done : goal.returns-clause-done
returns-clause-done c = raised_by _ _ _ _ _ _ _ c.in_ok-stand.ensures.done c.in_ok-leave_by.ensures.done c.tell.ensures

pub returns-in_err-stand-clause-stuck : goal.returns-in_err-stand-clause-stuck
returns-in_err-stand-clause-stuck c =
    let h = if_stuck_weaker c.in_err-stand.field-0.0 _
    (RaisedStuck c.args.code.now c.args.actor c.args.self.now)
    (λ m. nowhere m) c.in_err-stand.ensures.stuck in
    search (rules, h)

pub returns-in_err-leave_by-clause-stuck : goal.returns-in_err-leave_by-clause-stuck
returns-in_err-leave_by-clause-stuck c =
    let h = if_stuck_weaker c.in_err-leave_by.field-0.0 _
    (RaisedStuck c.args.code.now c.args.actor c.args.self.now)
    (λ m. standing c.in_ok-stand.stand c.in_ok-stand.ensures.done m) c.in_err-leave_by.ensures.stuck in
    search (rules, h)
