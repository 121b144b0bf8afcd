use Rattle.std.proofs.Common.{◌≡◌, ◌-◌, map, slice_get}
use Rattle.slab.specs.Slab.{get}
use Rattle.flow_numbered.specs.Links.{walk}
use Rattle.flow_cell.specs.Waiting.{waiter_of}
use Rattle.flow_cell.proofs.queue.waiter_from.Given as goal

-- the waiter is left to be reached
abbrev pub invariant-loop : goal.invariant-loop
invariant-loop l =
    slice_get (map waiter_of (walk (get l.links) (l.most - l.counter) l.key)) (l.place - l.counter)
    ≡ slice_get (map waiter_of (walk (get l.links) l.most l.fn.from)) l.place
