use Rattle.std.proofs.Common.{◌-◌, ◌+◌, ◌≤◌, length, map, ◌++◌}
use Rattle.flow_tree.specs.declared.limits.TheConstants.{OF_CLASS_TEXT}
use Rattle.flow_parse.proofs.Leaves.{Leaves}
use Rattle.flow_parse.specs.Reading.{Any}
use Rattle.flow_classread.specs.Parts.{Callbacks, MoreCallbacks}
use Rattle.flow_class.specs.View.{callback_of}
use Rattle.flow_classread.proofs.group.callbacks.Given as goal

abbrev pub invariant-items : goal.invariant-items
invariant-items l =
    (l.fn.at + l.count ≤ l.at) × (l.at ≤ length l.tokens.spots.items) × (l.count ≤ 64) × (length l.callbacks.items ≤ l.count) × Leaves OF_CLASS_TEXT (Callbacks l.fn.from) Any
    (MoreCallbacks (64 - l.count) (l.fn.from + l.count)) Any (λ ys. map callback_of l.callbacks.items ++ ys) l.tokens.spots.items l.fn.at l.at

abbrev pub decreases-items : goal.decreases-items
decreases-items l = length l.tokens.spots.items - l.at
