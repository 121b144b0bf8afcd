use Rattle.std.proofs.Common.{◌≡◌, ◌+◌, ◌*◌}
use Rattle.flow_value.specs.Values.{refs_of_all}
use Rattle.flow_value.specs.View.{values_of}
use Rattle.flow_cancel.specs.Dropping.{drops}
use Rattle.flow_cancel.proofs.dropping.+push_drops.Given as goal

abbrev pub invariant-push_part_drops-loop-part : goal.invariant-push_part_drops-loop-part
invariant-push_part_drops-loop-part l =
    drops (refs_of_all (values_of l.part-iterator.iter.rest.now)) l.tasks.items ≡ drops (refs_of_all (values_of l.parts)) l.initial.tasks.items

-- a value, then its parts
abbrev pub decreases-push_drops : goal.decreases-push_drops
decreases-push_drops l = 2 * goal.size-push_drops l

abbrev pub decreases-push_part_drops : goal.decreases-push_part_drops
decreases-push_part_drops l = 2 * goal.size-push_part_drops l + 1
