use Rattle.std.specs.declared.option.Option.TheVariants.{None, Some}
use Rattle.flow_steps.proofs.Holding.{on_stuck_weaker}
use Rattle.flow_steps.proofs.TasksAmiss.{fires_stuck_by}
use Rattle.flow_steps.proofs.process.Process.fire.Goals as goal

pub returns-in-Some-next_waiter-clause-stuck : goal.returns-in-Some-next_waiter-clause-stuck
returns-in-Some-next_waiter-clause-stuck c =
    on_stuck_weaker c.fire_to.result _ _
    (fires_stuck_by c.args.code.now c.args.cell c.in-Some.kind (Some c.in-Some-next_waiter.waiter) c.args.self.now c.in-Some.ensures c.in-Some-next_waiter.ensures) c.fire_to.ensures.stuck

pub returns-in-None-clause-stuck : goal.returns-in-None-clause-stuck
returns-in-None-clause-stuck c =
    on_stuck_weaker c.lose.result _ _
    (fires_stuck_by c.args.code.now c.args.cell c.in-Some.kind None c.args.self.now c.in-Some.ensures c.in-None.ensures) c.lose.ensures.stuck
