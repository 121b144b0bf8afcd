use Rattle.std.proofs.Common.{rules}
use Rattle.std.proofs.lemmas.Result.{on_ok_weaker}
use Rattle.flow_steps.specs.StuckTasks.{ClosesStuck, forgets_stuck}
use Rattle.flow_steps.proofs.Holding.{if_stuck_weaker, on_stuck_weaker, closed_by}
use Rattle.flow_steps.proofs.TasksAmiss.{closes_stuck}
use Rattle.flow_steps.proofs.process.Process.close.Goals as goal

pub returns-clause-done : goal.returns-clause-done
returns-clause-done c =
    on_ok_weaker c.close_result.result (closed_by _ _ c.in_ok-cell.cell _ _ _ _ c.in_ok-cell.ensures.told c.in_ok-cell.ensures.gone) c.close_result.ensures.done

pub returns-in_err-cell-clause-stuck : goal.returns-in_err-cell-clause-stuck
returns-in_err-cell-clause-stuck c =
    let h = if_stuck_weaker c.in_err-cell.field-0.0 _
    (ClosesStuck c.args.actor.0 c.args.self.now.heap)
    (λ m. forgets_stuck m) c.in_err-cell.ensures.stuck in
    search (rules, h)

pub returns-clause-stuck : goal.returns-clause-stuck
returns-clause-stuck c =
    on_stuck_weaker c.close_result.result _ _
    (closes_stuck c.args.actor.0 c.in_ok-cell.cell c.args.self.now c.forget.new.self c.in_ok-cell.ensures.gone c.in_ok-cell.ensures.told) c.close_result.ensures.stuck
