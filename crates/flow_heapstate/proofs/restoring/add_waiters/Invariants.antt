use Rattle.std.proofs.Common.{◌≡◌, IsSome, drop}
use Rattle.flow_numbered.specs.Numbered.{thing}
use Rattle.flow_heapstate.proofs.Building.{more}
use Rattle.flow_heapstate.specs.Restoring.{waiters_more}
use Rattle.flow_heapstate.proofs.restoring.add_waiters.Given as goal

abbrev pub invariant-loop-waiter : goal.invariant-loop-waiter
invariant-loop-waiter l =
    IsSome (thing l.cells.things l.cell.0)
    × (more waiters_more l.cell.0 (drop l.waiter-index l.waiters) (thing l.cells.things l.cell.0) l.cells
    ≡ more waiters_more l.cell.0 l.waiters (thing l.initial.cells.things l.cell.0) l.initial.cells)
