use Rattle.std.proofs.lemmas.Result.{on_ok_weaker}
use Rattle.flow_steps.proofs.Holding.{on_stuck_weaker, given_all}
use Rattle.flow_steps.proofs.process.Process.gives.Goals as goal

pub returns-clause-done : goal.returns-clause-done
returns-clause-done c =
    on_ok_weaker c.push.result (given_all _ _ _ _ _ _ _ _ c.in_ok-task.ensures.done c.in_ok-hold_value.ensures.done c.in_ok-run_on.ensures.done) c.push.ensures.done

pub returns-clause-stuck : goal.returns-clause-stuck
returns-clause-stuck c = on_stuck_weaker c.push.result _ _ (λ m. absurd m) c.push.ensures.stuck
