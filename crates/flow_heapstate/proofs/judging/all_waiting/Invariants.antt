use Rattle.std.proofs.Common.{◌≡◌, drop}
use Rattle.std.specs.List.{list_all}
use Rattle.flow_heapstate.specs.State.{parts_kept}
use Rattle.flow_heapstate.specs.Judging.{is_waiting}
use Rattle.flow_heapstate.proofs.judging.all_waiting.Given as goal

abbrev pub invariant-loop-waiter : goal.invariant-loop-waiter
invariant-loop-waiter l =
    list_all (is_waiting (parts_kept l.state) l.cell.0) (drop l.waiter-index l.waiters)
    ≡ list_all (is_waiting (parts_kept l.state) l.cell.0) l.waiters
