use Rattle.std.proofs.Common.{◌≡◌, ◌++◌, map}
use Rattle.std.specs.VecDeque.Iter.{deque_iter_rest}
use Rattle.flow_timers.specs.Moments.{pending_of, at_time}
use Rattle.flow_timers.proofs.moment.Moment.list.Given as goal

abbrev pub invariant-loop-event : goal.invariant-loop-event
invariant-loop-event g l =
    map pending_of l.entries.items ++ map (at_time l.time) (deque_iter_rest l.event-iterator)
    ≡ map pending_of l.initial.entries.items ++ map (at_time l.time) l.self
