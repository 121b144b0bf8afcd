use Rattle.std.proofs.Common.{length}
use Rattle.std.specs.Option.{ForSome}
use Rattle.flow_numbered.specs.Numbered.{thing}
use Rattle.flow_heapstate.proofs.Reading.{IsReadOf, left_of}
use Rattle.flow_heapstate.proofs.parts.waiters.Given as goal

abbrev pub invariant-loop-waiter : goal.invariant-loop-waiter
invariant-loop-waiter l = ForSome (thing l.cells.things l.cell.0) (λ c. IsReadOf (λ w. w) (λ w. w) c.waiters l.waiters.items)

abbrev pub decreases-loop-waiter : goal.decreases-loop-waiter
decreases-loop-waiter l = left_of (λ c. c.waiters) (thing l.cells.things l.cell.0) (length l.waiters.items)
