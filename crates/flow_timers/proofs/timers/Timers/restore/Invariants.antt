use Rattle.std.proofs.Common.{◌≡◌, ◌++◌, map}
use Rattle.flow_timers.specs.Pending.{in_order}
use Rattle.flow_timers.specs.Moments.{event_of}
use Rattle.flow_timers.proofs.timers.Timers.restore.Given as goal

abbrev pub invariant-loop-time : goal.invariant-loop-time
invariant-loop-time g l =
    (l.yielded ++ l.time-iterator.rest.items ≡ l.fn.entries.items)
    × (l.timers ≡ record { made = l.fn.made; pending = in_order (map event_of l.yielded) })
