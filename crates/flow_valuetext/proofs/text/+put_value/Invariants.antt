use Rattle.std.proofs.Common.{◌≡◌, ◌+◌, ◌*◌, ◌++◌, true, drop}
use Rattle.flow_value.specs.View.{values_of}
use Rattle.flow_valuetext.specs.ValueText.{parts_text}
use Rattle.flow_valuetext.proofs.text.+put_value.Given as goal

abbrev pub invariant-put_parts-loop-part : goal.invariant-put_parts-loop-part
invariant-put_parts-loop-part l =
    l.out.items ++ parts_text l.first (values_of (drop l.part-index l.parts))
    ≡ l.initial.out.items ++ parts_text true (values_of l.parts)

-- a value, then its parts
abbrev pub decreases-put_value : goal.decreases-put_value
decreases-put_value l = 2 * goal.size-put_value l

abbrev pub decreases-put_parts : goal.decreases-put_parts
decreases-put_parts l = 2 * goal.size-put_parts l + 1
