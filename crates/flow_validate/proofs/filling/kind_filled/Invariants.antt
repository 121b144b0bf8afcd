use Rattle.std.proofs.Common.{◌*◌}
use Rattle.flow_class.specs.View.{class_of}
use Rattle.flow_validate.specs.WalkStates.{AreFilledBelow}
use Rattle.flow_validate.proofs.filling.kind_filled.Given as goal

abbrev pub invariant-loop-number : goal.invariant-loop-number
invariant-loop-number l = AreFilledBelow (class_of l.class) l.locals (64 * l.number)
