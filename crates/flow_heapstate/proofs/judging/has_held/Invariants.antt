use Rattle.std.proofs.Common.{◌≡◌, drop}
use Rattle.flow_heapstate.specs.Sound.{has_held}
use Rattle.flow_heapstate.proofs.judging.has_held.Given as goal

abbrev pub invariant-loop-held : goal.invariant-loop-held
invariant-loop-held l =
    has_held (drop l.held-index l.callbacks) l.callback l.cell.0 ≡ has_held l.callbacks l.callback l.cell.0
