use Rattle.std.proofs.Common.{◌≡◌, ◌+◌, ◌*◌, ◌++◌, map, drop}
use Rattle.flow_value.specs.Values.{refs_of_all}
use Rattle.flow_value.specs.View.{values_of, ref_of}
use Rattle.flow_value.proofs.value.+add_refs.Given as goal

abbrev pub invariant-add_all_refs-loop-value : goal.invariant-add_all_refs-loop-value
invariant-add_all_refs-loop-value l =
    map ref_of l.found.items ++ refs_of_all (values_of (drop l.value-index l.values))
    ≡ map ref_of l.initial.found.items ++ refs_of_all (values_of l.values)

-- a value, then its parts
abbrev pub decreases-Value::add_refs : goal.decreases-Value::add_refs
decreases-Value::add_refs l = 2 * goal.size-Value::add_refs l

abbrev pub decreases-add_all_refs : goal.decreases-add_all_refs
decreases-add_all_refs l = 2 * goal.size-add_all_refs l + 1
