use Rattle.std.proofs.Common.{rules, ◌≡◌, ◌∙◌, refl, subst}
use Rattle.flow_world.specs.declared.ending.Ending.TheVariants as ending
use Rattle.flow_world.specs.declared.event.Event.TheVariants.{Ran, Idle, BoundReached, Spent, Stopped}
use Rattle.flow_world.specs.Around.{no_line}
use Rattle.flow_world.specs.Worlds.{world_seen}
use Rattle.flow_world.proofs.WatchedTraces.{HeardSo, quietly_first, quietly_on}
use Rattle.flow_trials.proofs.Trying.{heard_code, own_end, stop_end}
use Rattle.flow_trials.proofs.hearing.put_events.Goals as goal

pub events-init : goal.events-init
events-init g c = record {
  going = c.requires;
  code = refl;
  named = refl;
  quietly = quietly_first _ _ _ _ _;
}

pub events-preserved : goal.events-preserved
events-preserved g c =
    let is : c.in_ok-event.field-0 ≡ Ran = search rules in
    let does = (subst (λ e. HeardSo g.L.LineOut.puts e (world_seen c.events.world) c.events.out (g.P.Audience.ears c.events.panel) (world_seen c.event.new.self) c.event.new.out (g.P.Audience.ears c.event.new.panel)) is c.in_ok-event.ensures.does) in
    record {
      going = search rules;
      code = heard_code g.L.LineOut.puts Ran _ _ _ _ _ _ does ∙ c.events.invariant.code;
      named = c.event.ensures.names ∙ c.events.invariant.named;
      quietly = quietly_on _ _ _ _ _ _ _ _ _ _ _ c.events.invariant.quietly does no_line;
    }

pub returns-in-Idle-clause-goes : goal.returns-in-Idle-clause-goes
returns-in-Idle-clause-goes g c =
    let is : c.in_ok-event.field-0 ≡ Idle = search rules in
    let does = subst (λ e. HeardSo g.L.LineOut.puts e (world_seen c.events.world) c.events.out (g.P.Audience.ears c.events.panel) (world_seen c.event.new.self) c.event.new.out (g.P.Audience.ears c.event.new.panel)) is c.in_ok-event.ensures.does in
    own_end g.L.LineOut.puts ending.Idle _ _ _ _ _ _ _ _ _ c.events.invariant.quietly does

pub returns-in-BoundReached-clause-goes : goal.returns-in-BoundReached-clause-goes
returns-in-BoundReached-clause-goes g c =
    let is : c.in_ok-event.field-0 ≡ BoundReached = search rules in
    let does = subst (λ e. HeardSo g.L.LineOut.puts e (world_seen c.events.world) c.events.out (g.P.Audience.ears c.events.panel) (world_seen c.event.new.self) c.event.new.out (g.P.Audience.ears c.event.new.panel)) is c.in_ok-event.ensures.does in
    own_end g.L.LineOut.puts ending.Bound _ _ _ _ _ _ _ _ _ c.events.invariant.quietly does

pub returns-in-Spent-clause-goes : goal.returns-in-Spent-clause-goes
returns-in-Spent-clause-goes g c =
    let is : c.in_ok-event.field-0 ≡ Spent = search rules in
    let does = subst (λ e. HeardSo g.L.LineOut.puts e (world_seen c.events.world) c.events.out (g.P.Audience.ears c.events.panel) (world_seen c.event.new.self) c.event.new.out (g.P.Audience.ears c.event.new.panel)) is c.in_ok-event.ensures.does in
    own_end g.L.LineOut.puts ending.Spent _ _ _ _ _ _ _ _ _ c.events.invariant.quietly does

pub returns-in-Stopped-clause-goes : goal.returns-in-Stopped-clause-goes
returns-in-Stopped-clause-goes g c =
    let is : c.in_ok-event.field-0 ≡ Stopped c.in-Stopped.k = search rules in
    let does = subst (λ e. HeardSo g.L.LineOut.puts e (world_seen c.events.world) c.events.out (g.P.Audience.ears c.events.panel) (world_seen c.event.new.self) c.event.new.out (g.P.Audience.ears c.event.new.panel)) is c.in_ok-event.ensures.does in
    stop_end g.L.LineOut.puts c.in-Stopped.k _ _ _ _ _ _ _ _ _ c.events.invariant.quietly does

pub returns-in-Idle-clause-code : goal.returns-in-Idle-clause-code
returns-in-Idle-clause-code g c = heard_code g.L.LineOut.puts c.in_ok-event.field-0 _ _ _ _ _ _ c.in_ok-event.ensures.does ∙ c.events.invariant.code

pub returns-in-BoundReached-clause-code : goal.returns-in-BoundReached-clause-code
returns-in-BoundReached-clause-code g c = heard_code g.L.LineOut.puts c.in_ok-event.field-0 _ _ _ _ _ _ c.in_ok-event.ensures.does ∙ c.events.invariant.code

pub returns-in-Spent-clause-code : goal.returns-in-Spent-clause-code
returns-in-Spent-clause-code g c = heard_code g.L.LineOut.puts c.in_ok-event.field-0 _ _ _ _ _ _ c.in_ok-event.ensures.does ∙ c.events.invariant.code

pub returns-in-Stopped-clause-code : goal.returns-in-Stopped-clause-code
returns-in-Stopped-clause-code g c = heard_code g.L.LineOut.puts c.in_ok-event.field-0 _ _ _ _ _ _ c.in_ok-event.ensures.does ∙ c.events.invariant.code
