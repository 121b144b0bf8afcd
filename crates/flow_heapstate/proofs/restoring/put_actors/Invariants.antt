use Rattle.std.proofs.Common.{◌≡◌, map}
use Rattle.flow_cancel.specs.Heap.{last_actor}
use Rattle.flow_heapstate.specs.Restoring.{with_actors, RisesFrom}
use Rattle.flow_heapstate.proofs.restoring.put_actors.Given as goal

abbrev pub invariant-loop-part : goal.invariant-loop-part
invariant-loop-part l =
    RisesFrom (last_actor l.heap) (map (λ s. s.actor.0) l.part-iterator.rest.items)
    × (with_actors l.part-iterator.rest.items l.heap ≡ with_actors l.fn.parts.items l.initial.heap)
