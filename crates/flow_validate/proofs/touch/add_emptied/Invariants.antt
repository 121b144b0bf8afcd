use Rattle.std.proofs.Common.{◌≡◌, ◌++◌, drop, map}
use Rattle.flow_validate.specs.declared.touch.Touch.TheVariants.{Empties}
use Rattle.flow_validate.proofs.touch.add_emptied.Given as goal

abbrev pub invariant-loop-number : goal.invariant-loop-number
invariant-loop-number l = l.touches.items ++ map Empties (drop l.number-index l.numbers) ≡ l.fn.touches.items ++ map Empties l.numbers
