use Rattle.std.proofs.Common.{map, drop}
use Rattle.std.specs.List.{AllByRecursion}
use Rattle.flow_saved.specs.Saved.{process_saved}
use Rattle.flow_saved.specs.CanResume.{CanRun}
use Rattle.flow_machine_tests.proofs.resumable.processes_run.Given as goal

abbrev pub invariant-loop-state : goal.invariant-loop-state
invariant-loop-state l = AllByRecursion CanRun (map process_saved (drop l.state-index l.states)) → AllByRecursion CanRun (map process_saved l.states)
