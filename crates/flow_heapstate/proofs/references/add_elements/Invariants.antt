use Rattle.std.proofs.Common.{◌≡◌, ◌++◌, map, drop}
use Rattle.std.specs.List.{flat_map}
use Rattle.flow_value.specs.View.{ref_of, value_of}
use Rattle.flow_value.specs.Values.{refs_of}
use Rattle.flow_heapstate.proofs.references.add_elements.Given as goal

abbrev pub invariant-loop-value : goal.invariant-loop-value
invariant-loop-value l =
    map ref_of l.found.items ++ flat_map refs_of (map value_of (drop l.value-index l.queue))
    ≡ map ref_of l.initial.found.items ++ flat_map refs_of (map value_of l.queue)
