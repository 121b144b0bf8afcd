use Rattle.std.proofs.Common.{◌≡◌, ◌++◌, map, drop, length}
use Rattle.flow_tree.specs.DeclView.{slot_of}
use Rattle.flow_heapstate.specs.State.{place_of}
use Rattle.flow_debug.specs.Told.{variables_told}
use Rattle.flow_debug.specs.Views.{variable_of}
use Rattle.flow_debug.proofs.view.variables.Given as goal

abbrev pub invariant-loop-slot : goal.invariant-loop-slot
invariant-loop-slot l =
    map variable_of l.vars.items
    ++ variables_told (map slot_of (drop (length l.yielded) l.slots)) (map place_of (drop (length l.yielded) l.values))
    ≡ variables_told (map slot_of l.slots) (map place_of l.values)
