use Rattle.std.proofs.Common.{◌≡◌, take}
use Rattle.flow_tree.proofs.stmt.Target.copy.Given as goal

abbrev pub invariant-loop-name : goal.invariant-loop-name
invariant-loop-name l = l.path.items ≡ take l.name-index l.name-items
