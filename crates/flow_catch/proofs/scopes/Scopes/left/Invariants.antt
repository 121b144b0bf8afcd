use Rattle.std.proofs.Common.{◌≡◌, ◌≤◌, ◌-◌, ◌++◌, length, take}
use Rattle.flow_catch.specs.Inner.{scope_of, lists_of, left_lists}
use Rattle.flow_catch.proofs.scopes.Scopes.left.Given as goal

abbrev pub invariant-loop-left : goal.invariant-loop-left
invariant-loop-left l =
    (l.at ≤ length l.self-inside.entries.items)
    × (lists_of l.lists.items ++ left_lists (l.depth - l._left) (scope_of (take l.at l.self-inside.entries.items)) ≡ left_lists l.depth l.self)
