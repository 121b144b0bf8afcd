use Rattle.std.proofs.Common.{◌≡◌, ◌≤◌, ◌+◌, map, drop}
use Rattle.flow_value.specs.View.{ref_of}
use Rattle.flow_heapstate.specs.Referring.{times}
use Rattle.flow_heapstate.proofs.judging.times.Given as goal

abbrev pub invariant-loop-other : goal.invariant-loop-other
invariant-loop-other l =
    (l.count + times l.kind l.cell.0 (map ref_of (drop l.other-index l.found)) ≡ times l.kind l.cell.0 (map ref_of l.found))
    × (l.count ≤ l.other-index)
