use Rattle.std.proofs.Common.{ap}
use Rattle.flow_steps.specs.declared.process.Process.{Process}
use Rattle.flow_steps.proofs.Holding.{on_stuck_weaker}
use Rattle.flow_steps.proofs.Amiss.{left_still}
use Rattle.flow_steps.proofs.process.Process.uncaught.Goals as goal

pub returns-clause-stuck : goal.returns-clause-stuck
returns-clause-stuck c =
    on_stuck_weaker c.leave.result _ _
    (left_still c.args.actor.0 0 c.args.actor.0 _ c.args.self.now.heap _ _ c.in_ok-push.ensures (ap (λ (x : Process). x.heap) c.in_ok-lose_all.ensures.done)) c.leave.ensures.stuck
