use Rattle.std.proofs.Common.{rules, ◌≡◌, ◌∙◌, refl, subst, arith}
use Rattle.std.specs.Prelude.{Err}
use Rattle.flow_world.specs.declared.ending.Ending.TheVariants as ending
use Rattle.flow_world.specs.declared.event.Event.TheVariants.{Ran, Idle, BoundReached, Spent, Stopped}
use Rattle.flow_world.specs.Worlds.{world_seen}
use Rattle.flow_world.proofs.WatchedTraces.{HeardSo, quietly_first, quietly_on, ends_itself, stops_after, breaks_in_event, breaks_in_frames, breaks_in_last, fails_in_event, fails_in_frames, fails_in_last, fails_counting}
use Rattle.flow_world.proofs.Putting.{err_is}
use Rattle.flow_world.proofs.trace.put_events.Goals as goal

pub events-init : goal.events-init
events-init g c = record {
  going = c.requires;
  risen = omega arith;
  same = refl;
  named = refl;
  quietly = quietly_first _ _ _ _ _;
}

pub returns-in-Idle-clause-goes : goal.returns-in-Idle-clause-goes
returns-in-Idle-clause-goes g c =
    let is : c.in_ok-event.field-0 ≡ Idle = search rules in
    ends_itself _ _ ending.Idle _ _ _ _ _ _ _ _ c.events.invariant.quietly
    (subst (λ e. HeardSo g.L.LineOut.puts e (world_seen c.events.world) c.events.out (g.P.Audience.ears c.events.panel) (world_seen c.event.new.self) c.event.new.out (g.P.Audience.ears c.event.new.panel)) is c.in_ok-event.ensures.does)

pub returns-in-BoundReached-clause-goes : goal.returns-in-BoundReached-clause-goes
returns-in-BoundReached-clause-goes g c =
    let is : c.in_ok-event.field-0 ≡ BoundReached = search rules in
    ends_itself _ _ ending.Bound _ _ _ _ _ _ _ _ c.events.invariant.quietly
    (subst (λ e. HeardSo g.L.LineOut.puts e (world_seen c.events.world) c.events.out (g.P.Audience.ears c.events.panel) (world_seen c.event.new.self) c.event.new.out (g.P.Audience.ears c.event.new.panel)) is c.in_ok-event.ensures.does)

pub returns-in-Spent-clause-goes : goal.returns-in-Spent-clause-goes
returns-in-Spent-clause-goes g c =
    let is : c.in_ok-event.field-0 ≡ Spent = search rules in
    ends_itself _ _ ending.Spent _ _ _ _ _ _ _ _ c.events.invariant.quietly
    (subst (λ e. HeardSo g.L.LineOut.puts e (world_seen c.events.world) c.events.out (g.P.Audience.ears c.events.panel) (world_seen c.event.new.self) c.event.new.out (g.P.Audience.ears c.event.new.panel)) is c.in_ok-event.ensures.does)

pub returns-in-Stopped-clause-goes : goal.returns-in-Stopped-clause-goes
returns-in-Stopped-clause-goes g c =
    let is : c.in_ok-event.field-0 ≡ Stopped c.in-Stopped.k = search rules in
    stops_after _ _ _ _ _ _ _ _ _ _ _ _ c.events.invariant.quietly
    (subst (λ e. HeardSo g.L.LineOut.puts e (world_seen c.events.world) c.events.out (g.P.Audience.ears c.events.panel) (world_seen c.event.new.self) c.event.new.out (g.P.Audience.ears c.event.new.panel)) is c.in_ok-event.ensures.does)
    c.in_ok-put_frames_if-in-Stopped.ensures.puts

pub events-preserved : goal.events-preserved
events-preserved g c =
    let is : c.in_ok-event.field-0 ≡ Ran = search rules in
    record {
      going = search rules;
      risen = search rules;
      same = search rules;
      named = c.event.ensures.names ∙ c.events.invariant.named;
      quietly = quietly_on _ _ _ _ _ _ _ _ _ _ _ c.events.invariant.quietly
          (subst (λ e. HeardSo g.L.LineOut.puts e (world_seen c.events.world) c.events.out (g.P.Audience.ears c.events.panel) (world_seen c.event.new.self) c.event.new.out (g.P.Audience.ears c.event.new.panel)) is c.in_ok-event.ensures.does)
          c.in_ok-put_frames_if-in-Ran.ensures.puts;
    }

pub returns-in_err-event-clause-part : goal.returns-in_err-event-clause-part
returns-in_err-event-clause-part g c = λ failed.
    breaks_in_event _ _ _ _ _ _ _ _ _ _ c.events.invariant.quietly (c.event.ensures.breaks (search rules))

pub returns-in_err-put_frames_if-in-Ran-clause-part : goal.returns-in_err-put_frames_if-in-Ran-clause-part
returns-in_err-put_frames_if-in-Ran-clause-part g c = λ failed.
    let is : c.in_ok-event.field-0 ≡ Ran = search rules in
    breaks_in_frames _ _ _ _ _ _ _ _ _ _ _ c.events.invariant.quietly
    (subst (λ e. HeardSo g.L.LineOut.puts e (world_seen c.events.world) c.events.out (g.P.Audience.ears c.events.panel) (world_seen c.event.new.self) c.event.new.out (g.P.Audience.ears c.event.new.panel)) is c.in_ok-event.ensures.does)
    (c.put_frames_if.ensures.part (search rules))

pub returns-in_err-put_frames_if-in-Stopped-clause-part : goal.returns-in_err-put_frames_if-in-Stopped-clause-part
returns-in_err-put_frames_if-in-Stopped-clause-part g c = λ failed.
    let is : c.in_ok-event.field-0 ≡ Stopped c.in-Stopped.k = search rules in
    breaks_in_last _ _ _ _ _ _ _ _ _ _ _ _ c.events.invariant.quietly
    (subst (λ e. HeardSo g.L.LineOut.puts e (world_seen c.events.world) c.events.out (g.P.Audience.ears c.events.panel) (world_seen c.event.new.self) c.event.new.out (g.P.Audience.ears c.event.new.panel)) is c.in_ok-event.ensures.does)
    (c.put_frames_if-in-Stopped.ensures.part (search rules))

pub returns-in_err-event-clause-fails : goal.returns-in_err-event-clause-fails
returns-in_err-event-clause-fails g c =
    let is : c.from_residual.result ≡ Err c.in_err-event.field-0.0 = search rules in
    err_is _ _ _ is (fails_in_event _ _ _ _ _ _ _ _ _ _ c.events.invariant.quietly c.in_err-event.ensures.fails)

pub returns-in_err-put_frames_if-in-Ran-clause-fails : goal.returns-in_err-put_frames_if-in-Ran-clause-fails
returns-in_err-put_frames_if-in-Ran-clause-fails g c =
    let ran : c.in_ok-event.field-0 ≡ Ran = search rules in
    let is : c.from_residual-in_err-put_frames_if-in-Ran.result ≡ Err c.in_err-put_frames_if-in-Ran.field-0.0 = search rules in
    err_is _ _ _ is (fails_in_frames _ _ _ _ _ _ _ _ _ _ _ _ c.events.invariant.quietly
    (subst (λ e. HeardSo g.L.LineOut.puts e (world_seen c.events.world) c.events.out (g.P.Audience.ears c.events.panel) (world_seen c.event.new.self) c.event.new.out (g.P.Audience.ears c.event.new.panel)) ran c.in_ok-event.ensures.does)
    c.in_err-put_frames_if-in-Ran.ensures.fails)

pub returns-in_err-put_frames_if-in-Stopped-clause-fails : goal.returns-in_err-put_frames_if-in-Stopped-clause-fails
returns-in_err-put_frames_if-in-Stopped-clause-fails g c =
    let ran : c.in_ok-event.field-0 ≡ Stopped c.in-Stopped.k = search rules in
    let is : c.from_residual-in_err-put_frames_if-in-Stopped.result ≡ Err c.in_err-put_frames_if-in-Stopped.field-0.0 = search rules in
    err_is _ _ _ is (fails_in_last _ _ _ _ _ _ _ _ _ _ _ _ _ c.events.invariant.quietly
    (subst (λ e. HeardSo g.L.LineOut.puts e (world_seen c.events.world) c.events.out (g.P.Audience.ears c.events.panel) (world_seen c.event.new.self) c.event.new.out (g.P.Audience.ears c.event.new.panel)) ran c.in_ok-event.ensures.does)
    c.in_err-put_frames_if-in-Stopped.ensures.fails)

pub returns-clause-fails : goal.returns-clause-fails
returns-clause-fails g c = fails_counting _ _ _ _ _ _ _ c.events.invariant.quietly
