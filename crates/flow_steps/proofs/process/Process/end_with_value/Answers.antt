use Rattle.std.proofs.Common.{rules, inr}
use Rattle.flow_steps.specs.StuckSteps.{ReturnStuck}
use Rattle.flow_steps.proofs.Going.{after_held, after_noted}
use Rattle.flow_steps.proofs.Holding.{if_stuck_weaker}
use Rattle.flow_steps.proofs.process.Process.end_with_value.Goals as goal

pub returns-in_err-note-clause-stuck : goal.returns-in_err-note-clause-stuck
returns-in_err-note-clause-stuck c =
    let i = c.args.stand.now.actor.0 in
    let h = if_stuck_weaker c.in_err-note.field-0.0 _ (ReturnStuck c.args.stand.now c.args.value c.args.self.now)
    (λ m. inr (after_held i c.args.value c.args.self.now c.hold_value.new.self c.in_ok-hold_value.ensures.done m)) c.in_err-note.ensures.stuck in
    search (rules, h)

pub returns-in_err-lose_all-clause-stuck : goal.returns-in_err-lose_all-clause-stuck
returns-in_err-lose_all-clause-stuck c =
    let i = c.args.stand.now.actor.0 in
    let h = if_stuck_weaker c.in_err-lose_all.field-0.0 _ (ReturnStuck c.args.stand.now c.args.value c.args.self.now)
    (λ m. inr (after_held i c.args.value c.args.self.now c.hold_value.new.self c.in_ok-hold_value.ensures.done
    (after_noted c.args.stand.now c.hold_value.new.self c.note.new.self _ c.push.new.self c.in_ok-note.ensures.noted c.in_ok-push.ensures m))) c.in_err-lose_all.ensures.stuck in
    search (rules, h)
