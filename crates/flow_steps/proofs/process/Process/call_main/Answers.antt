use Rattle.std.proofs.Common.{inr}
use Rattle.flow_steps.specs.StuckTasks.{MainStartsStuck}
use Rattle.flow_steps.proofs.Holding.{on_stuck_weaker}
use Rattle.flow_steps.proofs.TasksAmiss.{turned_on}
use Rattle.flow_steps.proofs.process.Process.call_main.Goals as goal

pub returns-clause-stuck : goal.returns-clause-stuck
returns-clause-stuck c =
    on_stuck_weaker c.start_main.result _ _
    (λ m. inr (turned_on (MainStartsStuck c.args.code.now c.args.me) c.args.self.now c.turn.new.self c.turn.ensures.left m)) c.start_main.ensures.stuck
