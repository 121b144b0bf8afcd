use Rattle.std.proofs.Common.{rules}
use Rattle.flow_steps.proofs.Called.{new_stuck}
use Rattle.flow_steps.proofs.Holding.{if_stuck_weaker}
use Rattle.flow_steps.proofs.process.Process.gives_new.Goals as goal

pub returns-in_err-gives-clause-stuck : goal.returns-in_err-gives-clause-stuck
returns-in_err-gives-clause-stuck c =
    let h = if_stuck_weaker c.in_err-gives.field-0.0 _ ⊥
    (new_stuck c.args.goal c.args.kind c.in_ok-cell.cell c.args.self.now c.new_cell.new.self c.in_ok-cell.ensures.number c.in_ok-cell.ensures.made) c.in_err-gives.ensures.stuck in
    search (rules, h)
