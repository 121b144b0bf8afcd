use Rattle.std.proofs.Common.{◌≡◌, [], false}
use Rattle.flow_world.specs.Watching.{watching}
use Rattle.flow_world.specs.WatchedTraces.{Quietly}
use Rattle.flow_world.specs.Worlds.{world_seen}
use Rattle.flow_top.specs.Staging.{standing}
use Rattle.flow_top.proofs.Staging.{puts}
use Rattle.flow_top.proofs.stage.hear_events.Given as goal

abbrev pub invariant-events : goal.invariant-events
invariant-events g l = record {
  going : l.world.ended ≡ false;
  begun : (goal.Monitor-dyn g (l.lines.monitor.vtable, l.lines.monitor.value)).begun l.lines.monitor.value
      ≡ (goal.Monitor-dyn g (l.initial.lines.monitor.vtable, l.initial.lines.monitor.value)).begun l.initial.lines.monitor.value;
  code : (world_seen l.world).code ≡ (world_seen l.initial.world).code;
  silent : g.P.Audience.ears l.nobody ≡ [];
  quietly : Quietly (puts (λ m. standing m.progress ((goal.Monitor-dyn g (m.monitor.vtable, m.monitor.value)).ear m.monitor.value))) false
      (world_seen l.initial.world) (watching l.initial.lines []) (world_seen l.world) (watching l.lines (g.P.Audience.ears l.nobody));
}
