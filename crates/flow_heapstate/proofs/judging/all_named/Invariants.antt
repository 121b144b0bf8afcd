use Rattle.std.proofs.Common.{◌≡◌, map, drop}
use Rattle.std.specs.List.{list_all}
use Rattle.flow_value.specs.View.{ref_of}
use Rattle.flow_heapstate.specs.State.{parts_kept}
use Rattle.flow_heapstate.specs.Judging.{is_named}
use Rattle.flow_heapstate.proofs.judging.all_named.Given as goal

abbrev pub invariant-loop-kind : goal.invariant-loop-kind
invariant-loop-kind l =
    list_all (is_named (parts_kept l.state)) (map ref_of (drop l.kind-index l.found))
    ≡ list_all (is_named (parts_kept l.state)) (map ref_of l.found)
