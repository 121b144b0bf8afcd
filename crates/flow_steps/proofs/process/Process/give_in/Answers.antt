use Rattle.flow_steps.proofs.Holding.{on_stuck_weaker}
use Rattle.flow_steps.proofs.TasksAmiss.{brought_stuck}
use Rattle.flow_steps.proofs.process.Process.give_in.Goals as goal

pub returns-clause-stuck : goal.returns-clause-stuck
returns-clause-stuck c =
    on_stuck_weaker c.fill.result _ _
    (brought_stuck c.args.kind c.args.cell.0 c.args.outcome c.args.self.now c.turn.new.self c.hold_outcome.new.self c.turn.ensures.left c.in_ok-hold_outcome.ensures.done)
    c.fill.ensures.stuck
