use Rattle.std.proofs.Common.{◌≡◌, ◌≤◌, length, take}
use Rattle.flow_class.specs.Scopes.{find}
use Rattle.flow_catch.specs.Inner.{scope_of}
use Rattle.flow_catch.proofs.scopes.Scopes.find.Given as goal

abbrev pub invariant-loop-at : goal.invariant-loop-at
invariant-loop-at l = (l.at ≤ length l.self-inside.entries.items) × (find (scope_of (take l.at l.self-inside.entries.items)) l.name ≡ find l.self l.name)

abbrev pub decreases-loop-at : goal.decreases-loop-at
decreases-loop-at l = l.at
