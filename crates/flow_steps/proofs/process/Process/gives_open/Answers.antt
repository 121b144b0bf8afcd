use Rattle.std.proofs.Common.{rules}
use Rattle.flow_steps.proofs.Called.{open_there}
use Rattle.flow_steps.proofs.Holding.{if_stuck_weaker}
use Rattle.flow_steps.proofs.process.Process.gives_open.Goals as goal

pub returns-in_err-hold-clause-stuck : goal.returns-in_err-hold-clause-stuck
returns-in_err-hold-clause-stuck c =
    let h = if_stuck_weaker c.in_err-hold.field-0.0 _ ⊥
    (open_there c.args.goal c.args.actor c.in_ok-cell.cell c.args.self.now c.gives_new.new.self c.in_ok-cell.ensures.number c.in_ok-cell.ensures.given) c.in_err-hold.ensures.stuck in
    search (rules, h)
