use Rattle.std.proofs.Common.{◌≡◌, ◌≤◌, length, take, []}
use Rattle.flow_staterule.specs.Uses.{named}
use Rattle.flow_staterule.specs.View.{in_force, declared_after}
use Rattle.flow_staterule.proofs.scope.Variables.mention.Given as goal

-- the name isn't that of a newer variable
abbrev pub invariant-loop-number : goal.invariant-loop-number
invariant-loop-number l =
    (l.number ≤ length l.self.list.items)
    × (named (declared_after [] (take l.number l.self.list.items)) l.point l.name ≡ named (in_force l.self) l.point l.name)

abbrev pub decreases-loop-number : goal.decreases-loop-number
decreases-loop-number l = l.number
