use Rattle.std.proofs.Common.{take}
use Rattle.flow_valid.specs.Filling.{dropped}
use Rattle.flow_validate.specs.Following.{AreBits}
use Rattle.flow_validate.proofs.window.Window.locals_among.Given as goal

abbrev pub invariant-loop-number : goal.invariant-loop-number
invariant-loop-number l = AreBits l.self l.bits (dropped (take l.number-index l.numbers))
