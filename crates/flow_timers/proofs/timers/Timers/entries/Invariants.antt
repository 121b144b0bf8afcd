use Rattle.std.proofs.Common.{◌≡◌, ◌++◌, map}
use Rattle.flow_timers.specs.Moments.{pending_of, events_of}
use Rattle.flow_timers.proofs.timers.Timers.entries.Given as goal

abbrev pub invariant-loop-time : goal.invariant-loop-time
invariant-loop-time g l = map pending_of l.entries.items ++ events_of l.time-iterator ≡ l.self.pending
