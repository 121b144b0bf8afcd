use Rattle.std.proofs.Common.{◌≡◌, map, take}
use Rattle.flow_class.specs.View.{class_of}
use Rattle.flow_classread.specs.Reached.{class_names}
use Rattle.flow_classread.proofs.read.names_of.Given as goal

abbrev pub invariant-loop-class : goal.invariant-loop-class
invariant-loop-class l = l.names.items ≡ class_names (map class_of (take l.class-index l.classes))
