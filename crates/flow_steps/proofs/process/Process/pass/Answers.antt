use Rattle.std.proofs.Common.{rules, inr, ◌⊎◌}
use Rattle.flow_steps.specs.Stuck.{BlockMissing, FrameMissing}
use Rattle.flow_steps.proofs.Going.{after_turn, begin_missing}
use Rattle.flow_steps.proofs.Holding.{if_stuck_weaker}
use Rattle.flow_steps.proofs.process.Process.pass.Goals as goal

pub returns-in_err-note-clause-stuck : goal.returns-in_err-note-clause-stuck
returns-in_err-note-clause-stuck c =
    let s = c.args.stand.now in
    let h = if_stuck_weaker c.in_err-note.field-0.0 _ (BlockMissing s.class.now c.args.block ⊎ FrameMissing s.actor.0 c.args.self.now.heap)
    (λ m. inr (begin_missing s c.in_ok-begin.begin c.args.block c.args.self.now.heap c.in_ok-begin.ensures.done
    (after_turn c.in_ok-begin.begin.actor.0 c.args.self.now c.turn.new.self c.turn.ensures.left m))) c.in_err-note.ensures.stuck in
    search (rules, h)
