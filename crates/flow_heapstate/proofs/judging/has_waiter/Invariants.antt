use Rattle.std.proofs.Common.{◌≡◌, drop}
use Rattle.flow_cell.specs.Waiting.{has_waiter}
use Rattle.flow_heapstate.proofs.judging.has_waiter.Given as goal

abbrev pub invariant-loop-other : goal.invariant-loop-other
invariant-loop-other l =
    has_waiter (drop l.other-index l.waiters) l.waiter ≡ has_waiter l.waiters l.waiter
