use Rattle.std.proofs.Common.{rules, refl, ap, ◌∙◌}
use Rattle.flow_value.specs.Values.{CompositeValue, ListWhole, with_last}
use Rattle.flow_value.specs.View.{value_of, values_of}
use Rattle.flow_steps.specs.StuckSteps.{NoVectorAt}
use Rattle.flow_steps.proofs.Holding.{if_stuck_weaker}
use Rattle.flow_steps.proofs.InPlace.{grown_values, aims_at_none, other_old, aims_again, assigned_twice, changed_by}
use Rattle.flow_steps.proofs.process.Process.append.Goals as goal

pub returns-in_err-old-clause-stuck : goal.returns-in_err-old-clause-stuck
returns-in_err-old-clause-stuck c =
    let h = if_stuck_weaker c.in_err-old.field-0.0 _ (NoVectorAt c.args.code.now c.args.actor.0 c.args.aim.now c.args.self.now)
    (aims_at_none c.args.code.now c.args.actor c.args.aim.now c.args.self.now) c.in_err-old.ensures.stuck in
    search (rules, h)

pub returns-in_default-clause-stuck : goal.returns-in_default-clause-stuck
returns-in_default-clause-stuck c =
    other_old c.args.code.now c.args.actor c.args.aim.now _ c.in_ok-old.old c.args.self.now c.assign.new.self c.in_ok-old.ensures.done (c.in_default.ensures.none refl)

pub returns-in_err-assign-clause-stuck : goal.returns-in_err-assign-clause-stuck
returns-in_err-assign-clause-stuck c =
    let h = if_stuck_weaker c.in_err-assign.field-0.0 _ (NoVectorAt c.args.code.now c.args.actor.0 c.args.aim.now c.args.self.now)
    (λ m. absurd (aims_again c.args.code.now c.args.actor c.args.aim.now _ _ c.in_ok-old.old c.args.self.now c.assign.new.self c.in-Some.ensures.done c.in_ok-old.ensures.done m))
    c.in_err-assign.ensures.stuck in
    search (rules, h)

pub returns-clause-done : goal.returns-clause-done
returns-clause-done c =
    let items = c.in-Some.items.value.items in (
      values_of items,
      c.in_ok-old.old,
      changed_by c.args.code.now c.args.actor c.args.aim.now (values_of items) (with_last (values_of items) (value_of c.args.element))
          c.in_ok-vector.vector c.in_ok-old.old c.args.self.now c.assign-2.new.self
          (c.in_ok-vector.ensures ∙ ap (CompositeValue ListWhole)
          (grown_values c.in_ok-items.items.items items c.push.new.self.items c.args.element c.in_ok-items.ensures c.in_ok-push.ensures.items))
          c.in-Some.ensures.done
          (assigned_twice c.args.code.now c.args.actor c.args.aim.now _ _ c.in_ok-old.old c.args.self.now c.assign.new.self c.in-Some.ensures.done c.in_ok-old.ensures.done
          c.in_ok-vector.vector c.in_ok-assign.field-0 c.assign-2.new.self c.in_ok-assign.ensures.done),
    )
