use Rattle.std.proofs.Common.{List, ◌++◌, map}
use Rattle.flow_timers.specs.Moments.{pending_of}
use Rattle.flow_saved.specs.declared.state.PendingEvent.{PendingEvent}
use Rattle.flow_world.specs.Saving.{EventsTold}
use Rattle.flow_world.proofs.saving.events_told.Given as goal

-- with what is told of the events that are left, all are told
abbrev pub invariant-loop-time : goal.invariant-loop-time
invariant-loop-time l =
    (xs : List PendingEvent) → EventsTold l.on_way (map pending_of l.time-iterator.rest.items) xs → EventsTold l.on_way l.timers.pending (l.told.items ++ xs)
