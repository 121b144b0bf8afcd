use Rattle.std.proofs.Common.{rules}
use Rattle.flow_numbered.specs.Numbered.{thing}
use Rattle.flow_steps.specs.Stuck.{MayNotSet}
use Rattle.flow_steps.proofs.Holding.{set_stuck}
use Rattle.flow_steps.proofs.process.Process.fill_result.Goals as goal

pub returns-in_err-hold-clause-stuck : goal.returns-in_err-hold-clause-stuck
returns-in_err-hold-clause-stuck c =
    let h = set_stuck c.in_err-hold.field-0.0 (MayNotSet (thing c.args.self.now.heap.cells.things c.args.cell.0)) c.args.cell.0 c.args.outcome c.args.self.now c.set.new.self c.in_ok-set.ensures.done
    c.in_err-hold.ensures.stuck in
    search (rules, h)
