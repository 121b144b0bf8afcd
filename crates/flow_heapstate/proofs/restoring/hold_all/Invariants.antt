use Rattle.std.proofs.Common.{◌≡◌, map, drop}
use Rattle.flow_value.specs.View.{ref_of}
use Rattle.flow_heapstate.specs.Restoring.{held_all}
use Rattle.flow_heapstate.proofs.restoring.hold_all.Given as goal

abbrev pub invariant-loop-kind : goal.invariant-loop-kind
invariant-loop-kind l =
    held_all (map ref_of (drop l.kind-index l.found)) l.heap ≡ held_all (map ref_of l.found) l.initial.heap
