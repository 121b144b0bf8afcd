use Rattle.flow_steps.proofs.Over.{over_withdrawn}
use Rattle.flow_steps.proofs.process.Process.leave.Goals as goal

pub returns-clause-drops : goal.returns-clause-drops
returns-clause-drops c = rw c.in_ok-withdraw.ensures (over_withdrawn c.args.actor.0 c.args.self.now.heap)
