use Rattle.std.proofs.Common.{◌≡◌, map, drop}
use Rattle.std.specs.List.{list_all}
use Rattle.flow_heapstate.specs.State.{stream_kept, parts_kept}
use Rattle.flow_heapstate.specs.Judging.{stream_sound}
use Rattle.flow_heapstate.proofs.judging.streams_sound.Given as goal

abbrev pub invariant-loop-part : goal.invariant-loop-part
invariant-loop-part l =
    list_all (stream_sound (parts_kept l.state)) (map stream_kept (drop l.part-index l.parts))
    ≡ list_all (stream_sound (parts_kept l.state)) (map stream_kept l.parts)
