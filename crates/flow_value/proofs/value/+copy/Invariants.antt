use Rattle.std.proofs.Common.{◌≡◌, ◌+◌, ◌*◌, map, take}
use Rattle.flow_value.specs.View.{value_of}
use Rattle.flow_value.proofs.value.+copy.Given as goal

abbrev pub invariant-copies-loop-value : goal.invariant-copies-loop-value
invariant-copies-loop-value l = map value_of l.copies.items ≡ map value_of (take l.value-index l.values)

-- a value, then its parts
abbrev pub decreases-Value::copy : goal.decreases-Value::copy
decreases-Value::copy l = 2 * goal.size-Value::copy l

abbrev pub decreases-copies : goal.decreases-copies
decreases-copies l = 2 * goal.size-copies l + 1
