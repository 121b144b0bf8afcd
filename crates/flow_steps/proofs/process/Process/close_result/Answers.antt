use Rattle.flow_steps.specs.StuckTasks.{EndsStuck}
use Rattle.flow_steps.proofs.Holding.{on_stuck_weaker}
use Rattle.flow_steps.proofs.TasksAmiss.{turned_on}
use Rattle.flow_steps.proofs.process.Process.close_result.Goals as goal

pub returns-clause-stuck : goal.returns-clause-stuck
returns-clause-stuck c =
    on_stuck_weaker c.end_with-ended.result _ _ (turned_on (EndsStuck c.args.cell) c.args.self.now c.turn.new.self c.turn.ensures.left) c.end_with-ended.ensures.stuck
