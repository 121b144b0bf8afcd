use Rattle.std.proofs.Common.{length}
use Rattle.flow_numbered.specs.Numbered.{IsRising}
use Rattle.flow_heapstate.specs.State.{cell_kept, cell_part}
use Rattle.flow_numbered.proofs.Above.{things_above}
use Rattle.flow_heapstate.proofs.Reading.{IsListed}
use Rattle.flow_heapstate.proofs.listing.cells.Given as goal

abbrev pub invariant-loop-cell : goal.invariant-loop-cell
invariant-loop-cell l =
    IsRising 0 l.heap.cells.things l.heap.cells.greatest
    → IsListed cell_kept (cell_part l.heap.requests) l.heap.cells.things l.listed.items l.last.0

abbrev pub decreases-loop-cell : goal.decreases-loop-cell
decreases-loop-cell l = length (things_above l.last.0 l.heap.cells.things)
