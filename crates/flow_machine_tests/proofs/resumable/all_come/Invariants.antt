use Rattle.std.proofs.Common.{drop}
use Rattle.std.specs.List.{AllByRecursion}
use Rattle.flow_saved.specs.CanResume.{CanCome}
use Rattle.flow_machine_tests.proofs.resumable.all_come.Given as goal

abbrev pub invariant-loop-event : goal.invariant-loop-event
invariant-loop-event l = AllByRecursion (λ e. CanCome e.what) (drop l.event-index l.events) → AllByRecursion (λ e. CanCome e.what) l.events
