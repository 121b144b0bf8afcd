use Rattle.std.proofs.Common.{◌≡◌, drop}
use Rattle.flow_steps.specs.Points.{places_taken, places_emptied}
use Rattle.flow_steps.specs.Stuck.{SomePlaceMissing}
use Rattle.flow_steps.proofs.Framing.{emptied_after, taken_after}
use Rattle.flow_steps.proofs.process.Process.taken.Given as goal

abbrev pub invariant-loop-place : goal.invariant-loop-place
invariant-loop-place l =
    (l.self ≡ record l.fn.self { heap = l.self.heap })
    × (emptied_after l.actor.0 l.places l.place-index l.self.heap ≡ places_emptied l.actor.0 l.places l.fn.self.heap)
    × (taken_after l.actor.0 l.places l.place-index l.values.items l.self.heap ≡ places_taken l.actor.0 l.places l.fn.self.heap)
    × (SomePlaceMissing l.actor.0 (drop l.place-index l.places) l.self.heap → SomePlaceMissing l.actor.0 l.places l.fn.self.heap)
