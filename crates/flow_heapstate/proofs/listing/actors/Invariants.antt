use Rattle.std.proofs.Common.{length}
use Rattle.flow_numbered.specs.Numbered.{IsRising}
use Rattle.flow_heapstate.specs.State.{actor_kept, actor_part}
use Rattle.flow_numbered.proofs.Above.{things_above}
use Rattle.flow_heapstate.proofs.Reading.{IsListed}
use Rattle.flow_heapstate.proofs.listing.actors.Given as goal

abbrev pub invariant-loop-actor : goal.invariant-loop-actor
invariant-loop-actor l =
    IsRising 0 l.heap.frames.things l.heap.frames.greatest
    → IsListed actor_kept (actor_part l.heap.actors.things) l.heap.frames.things l.listed.items l.last.0

abbrev pub decreases-loop-actor : goal.decreases-loop-actor
decreases-loop-actor l = length (things_above l.last.0 l.heap.frames.things)
