use Rattle.std.proofs.Common.{rules, Some, subst}
use Rattle.flow_value.specs.declared.value.Value.TheVariants.{Ref}
use Rattle.flow_steps.specs.declared.frames.ControlPoint.{ControlPoint}
use Rattle.flow_steps.specs.Stuck.{OnStuck, FrameMissing, NoPlace}
use Rattle.flow_steps.proofs.Going.{new_holds, new_puts, new_after}
use Rattle.flow_steps.proofs.Holding.{if_stuck_weaker, on_stuck_weaker}
use Rattle.flow_steps.proofs.Stepped.{new_by}
use Rattle.flow_steps.proofs.process.Process.new_promise.Goals as goal

pub returns-clause-done : goal.returns-clause-done
returns-clause-done c =
    new_by _ _ _ _ _ c.in_ok-old.old _ _ _ _ _ _ c.in_ok-cell.ensures.number c.in_ok-cell.ensures.made c.in_ok-hold.ensures.done c.in_ok-old.ensures.changed
    c.in_ok-old.ensures.held c.in_ok-next.ensures.done c.on_after.ensures.done

pub returns-in_err-hold-clause-stuck : goal.returns-in_err-hold-clause-stuck
returns-in_err-hold-clause-stuck c =
    let i = c.args.stand.now.actor.0 in
    let h = if_stuck_weaker c.in_err-hold.field-0.0 _ (NoPlace i c.args.place c.args.self.now.heap)
    (λ m. absurd (new_holds i c.args.place c.args.kind c.in_ok-cell.cell c.args.self.now c.new_cell.new.self c.hold.new.self c.in_ok-cell.ensures.number c.in_ok-cell.ensures.made m))
    c.in_err-hold.ensures.stuck in
    search (rules, h)

pub returns-in_err-old-clause-stuck : goal.returns-in_err-old-clause-stuck
returns-in_err-old-clause-stuck c =
    let i = c.args.stand.now.actor.0 in
    let h = if_stuck_weaker c.in_err-old.field-0.0 _ (NoPlace i c.args.place c.args.self.now.heap)
    (new_puts i c.args.place c.args.kind c.in_ok-cell.cell c.args.self.now c.new_cell.new.self c.hold.new.self c.in_ok-cell.ensures.made c.in_ok-hold.ensures.done)
    c.in_err-old.ensures.stuck in
    search (rules, h)

pub returns-clause-stuck : goal.returns-clause-stuck
returns-clause-stuck c =
    let i = c.args.stand.now.actor.0 in
    let h = subst (λ (t : ControlPoint). OnStuck c.on_after.result (FrameMissing t.actor.0 c.put.new.self.heap)) c.in_ok-next.ensures.done c.on_after.ensures.stuck in
    on_stuck_weaker c.on_after.result _ _
    (new_after i c.args.place c.args.kind c.in_ok-cell.cell c.args.self.now c.new_cell.new.self c.hold.new.self (Some (Ref c.args.kind c.in_ok-cell.cell)) c.put.new.self
    c.in_ok-cell.ensures.made c.in_ok-hold.ensures.done c.in_ok-old.ensures.changed) h
