use Rattle.std.proofs.Common.{◌≡◌, ◌≤◌, ◌++◌, take}
use Rattle.flow_class.specs.Scopes.{scope}
use Rattle.flow_catch.specs.Inner.{scope_of}
use Rattle.flow_catch.proofs.scopes.newest.Given as goal

abbrev pub invariant-loop-at : goal.invariant-loop-at
invariant-loop-at l = (l.at ≤ l.end) × (l.numbers.items ++ scope (scope_of (take l.at l.entries)) ≡ scope (scope_of (take l.end l.entries)))

abbrev pub decreases-loop-at : goal.decreases-loop-at
decreases-loop-at l = l.at
