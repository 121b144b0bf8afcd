use Rattle.flow_steps.proofs.Holding.{on_stuck_weaker}
use Rattle.flow_steps.specs.Stuck.{LosesStuck}
use Rattle.flow_steps.proofs.TasksAmiss.{turned_on}
use Rattle.flow_steps.proofs.process.Process.drop_one.Goals as goal

pub returns-clause-stuck : goal.returns-clause-stuck
returns-clause-stuck c =
    on_stuck_weaker c.lose.result _ _ (turned_on (LosesStuck c.args.kind c.args.cell.0) c.args.self.now c.turn.new.self c.turn.ensures.left) c.lose.ensures.stuck
