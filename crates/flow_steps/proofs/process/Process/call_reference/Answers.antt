use Rattle.std.proofs.Common.{rules}
use Rattle.flow_steps.specs.StuckSteps.{CallsStuck}
use Rattle.flow_steps.proofs.Going.{method_gets_stuck}
use Rattle.flow_steps.proofs.Holding.{if_stuck_weaker}
use Rattle.flow_steps.proofs.process.Process.call_reference.Goals as goal

pub returns-in_err-method_act-clause-stuck : goal.returns-in_err-method_act-clause-stuck
returns-in_err-method_act-clause-stuck c =
    let h = if_stuck_weaker c.in_err-method_act.field-0.0 _ (CallsStuck c.args.code.now c.args.stand.now c.args.aim.now c.args.method c.args.sent c.args.self.now)
    (method_gets_stuck c.args.code.now c.args.stand.now c.args.aim.now c.args.method c.args.sent c.in-Some.kind c.in-Some.cell c.args.self.now c.go_on.new.self
    c.in-Some.ensures.done c.in_ok-go_on.ensures.done) c.in_err-method_act.ensures.stuck in
    search (rules, h)
