use Rattle.std.proofs.Common.{rules, inl, subst}
use Rattle.flow_steps.specs.declared.frames.ControlPoint.{ControlPoint}
use Rattle.flow_steps.specs.Stuck.{FrameMissing}
use Rattle.flow_steps.specs.StuckSteps.{EmptiesStuck}
use Rattle.flow_steps.proofs.Going.{after_emptied}
use Rattle.flow_steps.proofs.Holding.{if_stuck_weaker}
use Rattle.flow_steps.proofs.process.Process.empty_places.Goals as goal

pub returns-in_err-note-clause-stuck : goal.returns-in_err-note-clause-stuck
returns-in_err-note-clause-stuck c =
    let i = c.args.stand.now.actor.0 in
    let h = if_stuck_weaker c.in_err-note.field-0.0 _ (EmptiesStuck c.args.stand.now c.args.places.now c.args.self.now.heap)
    (λ m. inl (after_emptied i c.args.places.now c.args.self.now c.taken.new.self c.in_ok-values.ensures.emptied
    (subst (λ (t : ControlPoint). FrameMissing t.actor.0 c.taken.new.self.heap) c.in_ok-next.ensures.done m))) c.in_err-note.ensures.stuck in
    search (rules, h)
