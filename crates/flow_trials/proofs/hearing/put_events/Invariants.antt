use Rattle.std.proofs.Common.{◌≡◌, false}
use Rattle.flow_monitor.specs.Ears.{names}
use Rattle.flow_world.specs.Watching.{watching}
use Rattle.flow_world.specs.WatchedTraces.{Quietly}
use Rattle.flow_world.specs.Worlds.{world_seen}
use Rattle.flow_trials.proofs.hearing.put_events.Given as goal

abbrev pub invariant-events : goal.invariant-events
invariant-events g l = record {
  going : l.world.ended ≡ false;
  code : (world_seen l.world).code ≡ (world_seen l.initial.world).code;
  named : names (g.P.Audience.ears l.panel) ≡ names (g.P.Audience.ears l.initial.panel);
  quietly : Quietly g.L.LineOut.puts false (world_seen l.initial.world) (watching l.initial.out (g.P.Audience.ears l.initial.panel)) (world_seen l.world)
      (watching l.out (g.P.Audience.ears l.panel));
}
