use Rattle.std.proofs.Common.{◌≡◌, ◌++◌, drop, map}
use Rattle.flow_class.specs.View.{instr_of}
use Rattle.flow_validate.specs.Small.{small_body}
use Rattle.flow_validate.proofs.touch.add_body.Given as goal

abbrev pub invariant-loop-instr : goal.invariant-loop-instr
invariant-loop-instr l = l.touches.items ++ small_body (map instr_of (drop l.instr-index l.body)) ≡ l.fn.touches.items ++ small_body (map instr_of l.body)
