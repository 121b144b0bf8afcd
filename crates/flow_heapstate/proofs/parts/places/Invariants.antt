use Rattle.std.proofs.Common.{◌≡◌, length}
use Rattle.std.specs.Option.{ForSome}
use Rattle.flow_numbered.specs.Numbered.{thing}
use Rattle.flow_heapstate.specs.State.{place_of}
use Rattle.flow_heapstate.proofs.Reading.{IsReadOf}
use Rattle.flow_heapstate.proofs.parts.places.Given as goal

abbrev pub invariant-loop-place : goal.invariant-loop-place
invariant-loop-place l = ForSome (thing l.frames.things l.actor.0) (λ f. IsReadOf place_of place_of f.places l.places.items) × (length l.places.items ≡ l.place)
