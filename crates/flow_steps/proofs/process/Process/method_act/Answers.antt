use Rattle.flow_steps.proofs.Holding.{on_stuck_weaker}
use Rattle.flow_steps.proofs.Amiss.{sends_stuck}
use Rattle.flow_steps.proofs.process.Process.method_act.Goals as goal

pub returns-in_ok-outcome-in-Promise-clause-stuck : goal.returns-in_ok-outcome-in-Promise-clause-stuck
returns-in_ok-outcome-in-Promise-clause-stuck c =
    on_stuck_weaker c.send_into.result _ _
    (sends_stuck c.args.method c.args.kind c.args.cell c.args.arg c.args.self.now.heap c.in_ok-outcome-in-Promise.outcome c.in-Promise.is c.in_ok-outcome-in-Promise.ensures.done)
    c.send_into.ensures.stuck
