use Rattle.std.proofs.Common.{◌≡◌, ◌++◌, map, drop}
use Rattle.std.specs.List.{flat_map}
use Rattle.flow_value.specs.View.{ref_of}
use Rattle.flow_heapstate.specs.State.{stream_kept}
use Rattle.flow_heapstate.specs.Judging.{queue_refs}
use Rattle.flow_heapstate.proofs.references.add_queues.Given as goal

abbrev pub invariant-loop-part : goal.invariant-loop-part
invariant-loop-part l =
    map ref_of l.found.items ++ flat_map queue_refs (map stream_kept (drop l.part-index l.parts))
    ≡ map ref_of l.initial.found.items ++ flat_map queue_refs (map stream_kept l.parts)
