use Rattle.std.proofs.Common.{◌≡◌, ◌+◌, ◌-◌, ◌≤◌, ◌^◌, drop, min}
use Rattle.flow_world.specs.Views.{live_in}
use Rattle.flow_world.proofs.world.World.live.Given as goal

abbrev pub invariant-loop-process : goal.invariant-loop-process
invariant-loop-process l =
    (min (l.count + live_in (drop l.process-index l.self.places.items)) (2 ^ 64 - 1) ≡ min (live_in l.self.places.items) (2 ^ 64 - 1))
    × (l.count ≤ 2 ^ 64 - 1)
