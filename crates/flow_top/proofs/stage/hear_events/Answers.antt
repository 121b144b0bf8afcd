use Rattle.std.proofs.Common.{rules, ◌≡◌, ◌∙◌, refl, sym, ap, subst}
use Rattle.flow_monitor.specs.Ears.{names}
use Rattle.flow_world.specs.declared.ending.Ending.TheVariants as ending
use Rattle.flow_world.specs.declared.event.Event.TheVariants.{Ran, Idle, BoundReached, Spent}
use Rattle.flow_world.specs.Worlds.{world_seen}
use Rattle.flow_world.proofs.WatchedTraces.{HeardSo}
use Rattle.flow_top.specs.Staging.{standing}
use Rattle.flow_top.proofs.Staging.{puts, nobody_still, heard_code, none_ran, one_ran, over_by, stopped_by}
use Rattle.flow_top.proofs.stage.hear_events.Goals as goal

pub events-init : goal.events-init
events-init g c = record {
  going = c.requires.going;
  begun = refl;
  code = refl;
  silent = c.requires.silent;
  quietly = none_ran _ _ _ _ c.requires.silent;
}

pub events-preserved : goal.events-preserved
events-preserved g c =
    let is : c.in_ok-event.field-0 ≡ Ran = search rules in
    let does = (subst (λ e. HeardSo (puts (λ m. standing m.progress ((goal.Monitor-dyn g (m.monitor.vtable, m.monitor.value)).ear m.monitor.value))) e (world_seen c.events.world) c.events.lines (g.P.Audience.ears c.events.nobody) (world_seen c.event.new.self) c.event.new.out (g.P.Audience.ears c.event.new.panel)) is c.in_ok-event.ensures.does) in
    record {
      going = search rules;
      begun = c.event.ensures.kept ∙ c.events.invariant.begun;
      code = heard_code (puts (λ m. standing m.progress ((goal.Monitor-dyn g (m.monitor.vtable, m.monitor.value)).ear m.monitor.value))) Ran _ _ _ _ _ _ does ∙ c.events.invariant.code;
      silent = nobody_still _ (c.event.ensures.names ∙ ap names c.events.invariant.silent);
      quietly = one_ran _ _ _ _ _ _ _ _ _ c.events.invariant.quietly does;
    }

pub returns-then-is_stopped-clause-heard : goal.returns-then-is_stopped-clause-heard
returns-then-is_stopped-clause-heard g c =
    let is : c.in_ok-event.field-0 ≡ Ran = search rules in
    stopped_by _ _ _ (λ m. standing m.progress ((goal.Monitor-dyn g (m.monitor.vtable, m.monitor.value)).ear m.monitor.value)) _ _ _ _ _ _ c.events.invariant.quietly
    (subst (λ e. HeardSo (puts (λ m. standing m.progress ((goal.Monitor-dyn g (m.monitor.vtable, m.monitor.value)).ear m.monitor.value))) e (world_seen c.events.world) c.events.lines (g.P.Audience.ears c.events.nobody) (world_seen c.event.new.self) c.event.new.out (g.P.Audience.ears c.event.new.panel)) is c.in_ok-event.ensures.does)
    (nobody_still _ (c.event.ensures.names ∙ ap names c.events.invariant.silent)) (sym (c.is_stopped.ensures _) ∙ c.if-is_stopped.true)

pub returns-in-Idle-clause-heard : goal.returns-in-Idle-clause-heard
returns-in-Idle-clause-heard g c =
    let is : c.in_ok-event.field-0 ≡ Idle = search rules in
    over_by _ _ _ ending.Idle _ _ _ _ _ _ c.events.invariant.quietly
    (subst (λ e. HeardSo (puts (λ m. standing m.progress ((goal.Monitor-dyn g (m.monitor.vtable, m.monitor.value)).ear m.monitor.value))) e (world_seen c.events.world) c.events.lines (g.P.Audience.ears c.events.nobody) (world_seen c.event.new.self) c.event.new.out (g.P.Audience.ears c.event.new.panel)) is c.in_ok-event.ensures.does)

pub returns-in-BoundReached-clause-heard : goal.returns-in-BoundReached-clause-heard
returns-in-BoundReached-clause-heard g c =
    let is : c.in_ok-event.field-0 ≡ BoundReached = search rules in
    over_by _ _ _ ending.Bound _ _ _ _ _ _ c.events.invariant.quietly
    (subst (λ e. HeardSo (puts (λ m. standing m.progress ((goal.Monitor-dyn g (m.monitor.vtable, m.monitor.value)).ear m.monitor.value))) e (world_seen c.events.world) c.events.lines (g.P.Audience.ears c.events.nobody) (world_seen c.event.new.self) c.event.new.out (g.P.Audience.ears c.event.new.panel)) is c.in_ok-event.ensures.does)

pub returns-in-Spent-clause-heard : goal.returns-in-Spent-clause-heard
returns-in-Spent-clause-heard g c =
    let is : c.in_ok-event.field-0 ≡ Spent = search rules in
    over_by _ _ _ ending.Spent _ _ _ _ _ _ c.events.invariant.quietly
    (subst (λ e. HeardSo (puts (λ m. standing m.progress ((goal.Monitor-dyn g (m.monitor.vtable, m.monitor.value)).ear m.monitor.value))) e (world_seen c.events.world) c.events.lines (g.P.Audience.ears c.events.nobody) (world_seen c.event.new.self) c.event.new.out (g.P.Audience.ears c.event.new.panel)) is c.in_ok-event.ensures.does)
