use Rattle.std.proofs.Common.{◌≡◌, ◌++◌, map}
use Rattle.std.specs.List.{AllByRecursion, flat_map}
use Rattle.flow_timers.specs.Moments.{event_of}
use Rattle.flow_saved.specs.CanResume.{CanCome}
use Rattle.flow_world.specs.Resuming.{event_made, packets_in}
use Rattle.flow_world.proofs.resuming.events_made.Given as goal

abbrev pub invariant-loop-event : goal.invariant-loop-event
invariant-loop-event l = record {
  can : AllByRecursion (λ e. CanCome e.what) l.event-iterator.rest.items;
  entries : map event_of l.entries.items ++ map event_made l.event-iterator.rest.items ≡ map event_made l.fn.pending.items;
  packets : l.packets.items ++ flat_map (λ e. packets_in e.what) l.event-iterator.rest.items ≡ flat_map (λ e. packets_in e.what) l.fn.pending.items;
}
