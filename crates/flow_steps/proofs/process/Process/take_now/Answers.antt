use Rattle.std.proofs.Common.{rules, refl, inr}
use Rattle.flow_steps.specs.StuckWaits.{TakesStuck}
use Rattle.flow_steps.proofs.Holding.{if_stuck_weaker}
use Rattle.flow_steps.proofs.Amiss.{takes_still}
use Rattle.flow_steps.proofs.Waits.{branch_taken}
use Rattle.flow_steps.proofs.process.Process.take_now.Goals as goal

pub returns-clause-done : goal.returns-clause-done
returns-clause-done c =
    branch_taken _ _ _ _ _ _ _ _ _ _ c.in_ok-group.ensures.done c.in_ok-taken_from.ensures.done (refl, refl, c.in_ok-outcome.ensures.ok)
    c.in_ok-leave_for.ensures.left c.tell.ensures

pub returns-in_err-leave_for-clause-stuck : goal.returns-in_err-leave_for-clause-stuck
returns-in_err-leave_for-clause-stuck c =
    let s = c.args.stand.now in
    let k = c.args.cell.0 in
    let p = c.args.self.now in
    let h = if_stuck_weaker c.in_err-leave_for.field-0.0 _ (TakesStuck s k p.heap)
    (λ m. inr (inr (takes_still k s.actor.0 _ p c.taken_from.new.self c.in_ok-taken_from.ensures.done m))) c.in_err-leave_for.ensures.stuck in
    search (rules, h)
