use Rattle.std.proofs.Common.{rules}
use Rattle.flow_steps.specs.StuckCalls.{EnrolsStuck}
use Rattle.flow_steps.proofs.Called.{call_stuck}
use Rattle.flow_steps.proofs.Holding.{if_stuck_weaker}
use Rattle.flow_steps.proofs.process.Process.call_actor.Goals as goal

pub returns-in_err-gives-clause-stuck : goal.returns-in_err-gives-clause-stuck
returns-in_err-gives-clause-stuck c =
    let h = if_stuck_weaker c.in_err-gives.field-0.0 _ (EnrolsStuck c.args.code.now c.args.number c.args.args.items c.args.self.now.heap)
    (λ m. absurd (call_stuck c.args.code.now c.args.number c.args.args.items c.in_ok-actor.actor c.in_ok-actor.cell c.args.goal c.turn.new.self c.enrol.new.self c.in_ok-actor.ensures.done m))
    c.in_err-gives.ensures.stuck in
    search (rules, h)
