use Rattle.std.proofs.Common.{◌≡◌, List, ◌++◌, length, map, drop}
use Rattle.std.specs.List.{AllByRecursion}
use Rattle.flow_saved.specs.Saved.{SavedProcess, process_saved}
use Rattle.flow_saved.specs.CanResume.{HasNumberedFew}
use Rattle.flow_world.specs.Saving.{ProcessesTold}
use Rattle.flow_world.proofs.saving.processes_told.Given as goal

-- with what is told of the processes that are left, all are told
abbrev pub invariant-loop-place : goal.invariant-loop-place
invariant-loop-place l = record {
  count : length l.told.items ≡ l.place-index;
  told :
      (xs : List SavedProcess) → ProcessesTold (drop l.place-index l.places) (drop l.place-index l.disks) xs
      → ProcessesTold l.places l.disks (map process_saved l.told.items ++ xs);
  few : AllByRecursion HasNumberedFew (map process_saved l.told.items);
}
