use Rattle.std.proofs.Common.{rules}
use Rattle.flow_steps.specs.StuckSteps.{ActStuck}
use Rattle.flow_steps.proofs.Going.{void_gets_stuck}
use Rattle.flow_steps.proofs.Holding.{if_stuck_weaker}
use Rattle.flow_steps.proofs.process.Process.act_with.Goals as goal

pub returns-in_err-call_void-in-Actor-clause-stuck : goal.returns-in_err-call_void-in-Actor-clause-stuck
returns-in_err-call_void-in-Actor-clause-stuck c =
    let h = if_stuck_weaker c.in_err-call_void-in-Actor.field-0.0 _ (ActStuck c.args.code.now c.args.stand.now c.args.act c.args.args c.args.self.now)
    (void_gets_stuck c.args.code.now c.args.stand.now c.args.act c.in-Actor.class c.args.args c.args.self.now c.go_on-in-Actor.new.self c.in-Actor.is c.in_ok-go_on-in-Actor.ensures.done)
    c.in_err-call_void-in-Actor.ensures.stuck in
    search (rules, h)
