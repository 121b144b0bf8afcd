use Rattle.std.proofs.Common.{◌≡◌, map, drop}
use Rattle.flow_heapstate.specs.State.{stream_kept}
use Rattle.flow_heapstate.specs.Sound.{at_number}
use Rattle.flow_heapstate.proofs.judging.stream_at.Given as goal

abbrev pub invariant-loop-part : goal.invariant-loop-part
invariant-loop-part l =
    at_number (λ c. c.cell) (map stream_kept (drop l.part-index l.state.streams.items)) l.cell.0
    ≡ at_number (λ c. c.cell) (map stream_kept l.state.streams.items) l.cell.0
