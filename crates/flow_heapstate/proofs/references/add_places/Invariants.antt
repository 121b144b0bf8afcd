use Rattle.std.proofs.Common.{◌≡◌, ◌++◌, map, drop}
use Rattle.std.specs.List.{flat_map}
use Rattle.flow_value.specs.View.{ref_of}
use Rattle.flow_heapstate.specs.State.{place_of}
use Rattle.flow_heapstate.specs.Referring.{place_refs}
use Rattle.flow_heapstate.proofs.references.add_places.Given as goal

abbrev pub invariant-loop-place : goal.invariant-loop-place
invariant-loop-place l =
    map ref_of l.found.items ++ flat_map place_refs (map place_of (drop l.place-index l.places))
    ≡ map ref_of l.initial.found.items ++ flat_map place_refs (map place_of l.places)
