use Rattle.std.proofs.Common.{◌≡◌, drop}
use Rattle.flow_value.specs.Values.{any_may_refer}
use Rattle.flow_value.specs.View.{values_of}
use Rattle.flow_value.proofs.value.any_may_refer.Given as goal

abbrev pub invariant-loop-value : goal.invariant-loop-value
invariant-loop-value l = any_may_refer (values_of (drop l.value-index l.values)) ≡ any_may_refer (values_of l.values)
