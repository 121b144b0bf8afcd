use Rattle.std.proofs.Common.{◌≡◌, ◌++◌, drop}
use Rattle.flow_validate.proofs.Gathering.{operands_read}
use Rattle.flow_validate.proofs.touch.add_operands.Given as goal

abbrev pub invariant-loop-callback : goal.invariant-loop-callback
invariant-loop-callback l = l.touches.items ++ operands_read (drop l.callback-index l.callbacks) ≡ l.fn.touches.items ++ operands_read l.callbacks
