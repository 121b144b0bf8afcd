use Rattle.std.proofs.Common.{◌≡◌, ◌++◌, map, drop}
use Rattle.flow_debug.specs.Told.{cell_held}
use Rattle.flow_debug.specs.Views.{cell_number}
use Rattle.flow_debug.proofs.view.cells.Given as goal

abbrev pub invariant-loop-held : goal.invariant-loop-held
invariant-loop-held l = map cell_number l.cells.items ++ map cell_held (drop l.held-index l.callbacks) ≡ map cell_held l.callbacks
