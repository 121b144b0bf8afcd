use Rattle.std.proofs.Common.{map, take}
use Rattle.flow_class.specs.View.{class_of}
use Rattle.flow_validate.specs.Sizes.{AreFew}
use Rattle.flow_validate.proofs.sizes.are_few.Given as goal

abbrev pub invariant-loop-class : goal.invariant-loop-class
invariant-loop-class l = AreFew (map class_of (take l.class-index l.classes))
