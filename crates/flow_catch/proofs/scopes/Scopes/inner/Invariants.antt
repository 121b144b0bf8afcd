use Rattle.std.proofs.Common.{◌≡◌, ◌≤◌, ◌-◌, ◌++◌, length, take}
use Rattle.flow_catch.specs.Inner.{scope_of, inner_locals}
use Rattle.flow_catch.proofs.scopes.Scopes.inner.Given as goal

abbrev pub invariant-loop-left : goal.invariant-loop-left
invariant-loop-left l =
    (l.at ≤ length l.self-inside.entries.items)
    × (l.numbers.items ++ inner_locals (l.depth - l._left) (scope_of (take l.at l.self-inside.entries.items)) ≡ inner_locals l.depth l.self)
