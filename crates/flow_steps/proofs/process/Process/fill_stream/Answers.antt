use Rattle.std.proofs.Common.{rules}
use Rattle.flow_numbered.specs.Numbered.{thing}
use Rattle.flow_steps.specs.Stuck.{MayNotSend}
use Rattle.flow_steps.proofs.Holding.{send_stuck}
use Rattle.flow_steps.proofs.process.Process.fill_stream.Goals as goal

pub returns-in_err-hold-clause-stuck : goal.returns-in_err-hold-clause-stuck
returns-in_err-hold-clause-stuck c =
    let h = send_stuck c.in_err-hold.field-0.0 (MayNotSend (thing c.args.self.now.heap.streams.things c.args.cell.0)) c.args.cell.0 c.args.outcome c.args.self.now c.send_outcome.new.self
    c.in_ok-send_outcome.ensures.done c.in_err-hold.ensures.stuck in
    search (rules, h)
