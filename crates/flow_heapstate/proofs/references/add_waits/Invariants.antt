use Rattle.std.proofs.Common.{◌≡◌, ◌++◌, map, drop}
use Rattle.flow_value.specs.View.{ref_of}
use Rattle.flow_heapstate.specs.Referring.{waits_of}
use Rattle.flow_heapstate.proofs.references.add_waits.Given as goal

abbrev pub invariant-loop-waiter : goal.invariant-loop-waiter
invariant-loop-waiter l =
    map ref_of l.found.items ++ waits_of l.cell.0 (drop l._waiter-index l.waiters)
    ≡ map ref_of l.initial.found.items ++ waits_of l.cell.0 l.waiters
