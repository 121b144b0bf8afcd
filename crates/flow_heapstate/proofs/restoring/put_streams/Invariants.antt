use Rattle.std.proofs.Common.{◌≡◌, map}
use Rattle.flow_numbered.specs.Numbered.{IsRising}
use Rattle.flow_heapstate.specs.Restoring.{with_streams, RisesFrom}
use Rattle.flow_heapstate.proofs.restoring.put_streams.Given as goal

abbrev pub invariant-loop-part : goal.invariant-loop-part
invariant-loop-part l = record {
  rising : IsRising 0 l.heap.streams.things l.heap.streams.greatest;
  above : RisesFrom l.heap.streams.greatest (map (λ s. s.cell.0) l.part-iterator.rest.items);
  same : with_streams l.part-iterator.rest.items l.heap ≡ with_streams l.fn.parts.items l.initial.heap;
}
