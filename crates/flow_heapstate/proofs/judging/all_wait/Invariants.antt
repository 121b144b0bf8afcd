use Rattle.std.proofs.Common.{◌≡◌, drop}
use Rattle.std.specs.List.{list_all}
use Rattle.flow_heapstate.specs.State.{parts_kept}
use Rattle.flow_heapstate.specs.Judging.{waits_at}
use Rattle.flow_heapstate.proofs.judging.all_wait.Given as goal

abbrev pub invariant-loop-held : goal.invariant-loop-held
invariant-loop-held l =
    list_all (waits_at (parts_kept l.state) l.actor.0) (drop l.held-index l.callbacks)
    ≡ list_all (waits_at (parts_kept l.state) l.actor.0) l.callbacks
