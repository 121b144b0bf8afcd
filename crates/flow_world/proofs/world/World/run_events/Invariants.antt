use Rattle.std.proofs.Common.{◌≡◌, false}
use Rattle.flow_world.specs.Worlds.{world_seen}
use Rattle.flow_world.specs.Skipping.{Skips}
use Rattle.flow_world.proofs.world.World.run_events.Given as goal

abbrev pub invariant-loop-done : goal.invariant-loop-done
invariant-loop-done l = record {
  going : l.self.ended ≡ false;
  skips : Skips l._done (world_seen l.initial.self) (world_seen l.self) l.silence;
}
