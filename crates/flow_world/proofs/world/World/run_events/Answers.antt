use Rattle.std.proofs.Common.{rules, ◌≡◌, ◌+◌, subst}
use Rattle.std.specs.Prelude.{Err}
use Rattle.flow_world.specs.declared.ending.Ending.TheVariants as ending
use Rattle.flow_world.specs.declared.event.Event.TheVariants.{Ran, Idle, BoundReached, Spent}
use Rattle.flow_world.specs.FaultedLines.{tells, whole}
use Rattle.flow_world.specs.Happening.{EventDoes}
use Rattle.flow_world.specs.Skipping.{unkept}
use Rattle.flow_world.specs.Worlds.{world_seen}
use Rattle.flow_world.proofs.Putting.{err_is}
use Rattle.flow_world.proofs.Skips.{skips_none, skips_one, skips_end, skip_fails}
use Rattle.flow_world.proofs.world.World.run_events.Goals as goal

pub loop-done-init : goal.loop-done-init
loop-done-init c = record { going = c.requires; skips = skips_none _ _ }

pub returns-in_err-next_event-clause-fails : goal.returns-in_err-next_event-clause-fails
returns-in_err-next_event-clause-fails c =
    let is : c.from_residual.result ≡ Err c.in_err-next_event.field-0.0 = search rules in
    err_is _ _ _ is (skip_fails _ _ _ _ _ _ _ c.loop-done-test.true c.loop-done.invariant.skips c.in_err-next_event.ensures.fails)

pub returns-in-Idle-clause-skips : goal.returns-in-Idle-clause-skips
returns-in-Idle-clause-skips c =
    let is : c.in_ok-next_event.field-0 ≡ Idle = search rules in
    skips_end _ _ ending.Idle _ _ _ _ _ c.loop-done-test.true c.loop-done.invariant.skips
    (subst (λ e. EventDoes (tells unkept) e (world_seen c.loop-done.self) (whole c.loop-done.silence) (world_seen c.next_event.new.self) (whole c.next_event.new.out)) is c.in_ok-next_event.ensures.does)

pub returns-in-BoundReached-clause-skips : goal.returns-in-BoundReached-clause-skips
returns-in-BoundReached-clause-skips c =
    let is : c.in_ok-next_event.field-0 ≡ BoundReached = search rules in
    skips_end _ _ ending.Bound _ _ _ _ _ c.loop-done-test.true c.loop-done.invariant.skips
    (subst (λ e. EventDoes (tells unkept) e (world_seen c.loop-done.self) (whole c.loop-done.silence) (world_seen c.next_event.new.self) (whole c.next_event.new.out)) is c.in_ok-next_event.ensures.does)

pub returns-in-Spent-clause-skips : goal.returns-in-Spent-clause-skips
returns-in-Spent-clause-skips c =
    let is : c.in_ok-next_event.field-0 ≡ Spent = search rules in
    skips_end _ _ ending.Spent _ _ _ _ _ c.loop-done-test.true c.loop-done.invariant.skips
    (subst (λ e. EventDoes (tells unkept) e (world_seen c.loop-done.self) (whole c.loop-done.silence) (world_seen c.next_event.new.self) (whole c.next_event.new.out)) is c.in_ok-next_event.ensures.does)

pub loop-done-preserved : goal.loop-done-preserved
loop-done-preserved c =
    let is : c.in_ok-next_event.field-0 ≡ Ran = search rules in
    let ran : c.next_event.new.self.ran ≡ c.loop-done.self.ran + 1 = search rules in
    record {
      going = search rules;
      skips = skips_one _ _ _ _ _ _ c.loop-done.invariant.skips
          (subst (λ e. EventDoes (tells unkept) e (world_seen c.loop-done.self) (whole c.loop-done.silence) (world_seen c.next_event.new.self) (whole c.next_event.new.out)) is c.in_ok-next_event.ensures.does)
          ran;
    }
