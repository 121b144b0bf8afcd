use Rattle.std.proofs.Common.{◌≡◌, map}
use Rattle.flow_numbered.specs.Numbered.{IsRising}
use Rattle.flow_heapstate.specs.Restoring.{with_cells, RisesFrom}
use Rattle.flow_heapstate.proofs.restoring.put_cells.Given as goal

abbrev pub invariant-loop-part : goal.invariant-loop-part
invariant-loop-part l = record {
  rising : IsRising 0 l.heap.cells.things l.heap.cells.greatest;
  above : RisesFrom l.heap.cells.greatest (map (λ s. s.cell.0) l.part-iterator.rest.items);
  same : with_cells l.part-iterator.rest.items l.heap ≡ with_cells l.fn.parts.items l.initial.heap;
}
