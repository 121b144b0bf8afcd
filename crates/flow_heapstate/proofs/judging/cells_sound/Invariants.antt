use Rattle.std.proofs.Common.{◌≡◌, map, drop}
use Rattle.std.specs.List.{list_all}
use Rattle.flow_heapstate.specs.State.{cell_kept, parts_kept}
use Rattle.flow_heapstate.specs.Judging.{cell_sound}
use Rattle.flow_heapstate.proofs.judging.cells_sound.Given as goal

abbrev pub invariant-loop-part : goal.invariant-loop-part
invariant-loop-part l =
    list_all (cell_sound (parts_kept l.state)) (map cell_kept (drop l.part-index l.parts))
    ≡ list_all (cell_sound (parts_kept l.state)) (map cell_kept l.parts)
