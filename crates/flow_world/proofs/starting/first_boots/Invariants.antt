use Rattle.std.proofs.Common.{◌≡◌}
use Rattle.flow_world.specs.Starting.{boots}
use Rattle.flow_world.proofs.starting.first_boots.Given as goal

abbrev pub invariant-loop-number : goal.invariant-loop-number
invariant-loop-number l = l.timers ≡ boots l.number
