use Rattle.std.proofs.Common.{length}
use Rattle.flow_numbered.specs.Numbered.{IsRising}
use Rattle.flow_heapstate.specs.State.{stream_kept, stream_part}
use Rattle.flow_numbered.proofs.Above.{things_above}
use Rattle.flow_heapstate.proofs.Reading.{IsListed}
use Rattle.flow_heapstate.proofs.listing.streams.Given as goal

abbrev pub invariant-loop-cell : goal.invariant-loop-cell
invariant-loop-cell l =
    IsRising 0 l.heap.streams.things l.heap.streams.greatest
    → IsListed stream_kept (stream_part l.heap.ports) l.heap.streams.things l.listed.items l.last.0

abbrev pub decreases-loop-cell : goal.decreases-loop-cell
decreases-loop-cell l = length (things_above l.last.0 l.heap.streams.things)
