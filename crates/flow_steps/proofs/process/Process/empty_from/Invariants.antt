use Rattle.std.proofs.Common.{◌≡◌, ℕ, ◌-◌, ◌≤◌, None}
use Rattle.flow_steps.specs.Drops.{DropsOver}
use Rattle.flow_steps.specs.Points.{place_held, places_lost}
use Rattle.flow_steps.proofs.process.Process.empty_from.Given as goal

abbrev pub invariant-loop-place : goal.invariant-loop-place
invariant-loop-place l =
    DropsOver l.initial.self.heap.tasks l.self.heap.tasks
    × (l.self ≡ record l.fn.self { heap = l.self.heap })
    × (places_lost l.actor.0 l.place (l.last - l.place) l.self.heap ≡ places_lost l.actor.0 l.fn.first (l.last - l.fn.first) l.fn.self.heap)
    × ((k : ℕ) → l.last ≤ k → place_held l.actor.0 k l.self.heap ≡ None)
