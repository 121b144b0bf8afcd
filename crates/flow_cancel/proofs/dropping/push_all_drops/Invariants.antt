use Rattle.std.proofs.Common.{◌≡◌, length}
use Rattle.flow_cancel.specs.Dropping.{drops, refs_in}
use Rattle.flow_cancel.proofs.dropping.push_all_drops.Given as goal

abbrev pub invariant-loop-value : goal.invariant-loop-value
invariant-loop-value l = drops (refs_in l.values.items) l.tasks.items ≡ drops (refs_in l.initial.values.items) l.initial.tasks.items

abbrev pub decreases-loop-value : goal.decreases-loop-value
decreases-loop-value l = length l.values.items
