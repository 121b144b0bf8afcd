use Rattle.std.proofs.Common.{◌≡◌, drop}
use Rattle.flow_steps.specs.Waiting.{callbacks_of, register_all}
use Rattle.flow_steps.specs.StuckWaits.{SomeNoCell}
use Rattle.flow_steps.proofs.Waits.{registered_after}
use Rattle.flow_steps.proofs.process.Process.register_all.Given as goal

abbrev pub invariant-loop-place : goal.invariant-loop-place
invariant-loop-place l =
    (l.self ≡ record l.fn.self { heap = l.self.heap })
    × (l.self.heap.frames ≡ l.fn.self.heap.frames)
    × (registered_after l.actor.0 (callbacks_of l.actor.0 l.fn.self.heap) l.place l.self.heap ≡ register_all l.actor.0 (callbacks_of l.actor.0 l.fn.self.heap) l.fn.self.heap)
    × (SomeNoCell (drop l.place (callbacks_of l.actor.0 l.fn.self.heap)) l.self.heap → SomeNoCell (callbacks_of l.actor.0 l.fn.self.heap) l.fn.self.heap)
