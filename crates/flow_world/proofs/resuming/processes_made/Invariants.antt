use Rattle.std.proofs.Common.{◌≡◌, ◌++◌, ◌+◌, length, map}
use Rattle.std.specs.List.{AllByRecursion}
use Rattle.flow_saved.specs.Saved.{process_saved}
use Rattle.flow_saved.specs.CanResume.{CanRun}
use Rattle.flow_world.specs.Resuming.{disk_made, PlacesMade}
use Rattle.flow_world.proofs.resuming.processes_made.Given as goal

abbrev pub invariant-loop-state : goal.invariant-loop-state
invariant-loop-state l = record {
  all : l.yielded ++ l.state-iterator.rest.items ≡ l.fn.states.items;
  count : l.number + length l.state-iterator.rest.items ≡ l.processes;
  done : length l.yielded ≡ l.number;
  can : AllByRecursion CanRun (map process_saved l.state-iterator.rest.items);
  places : PlacesMade l.processes 0 (map process_saved l.yielded) l.places.items;
  disks : l.disks.items ≡ map (λ p. disk_made p.disk) (map process_saved l.yielded);
}
