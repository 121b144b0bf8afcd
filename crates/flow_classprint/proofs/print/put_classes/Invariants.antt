use Rattle.std.proofs.Common.{◌≡◌, ◌++◌, map, take}
use Rattle.flow_class.specs.View.{class_of}
use Rattle.flow_classprint.specs.ClassText.{all_text, class_text}
use Rattle.flow_classprint.proofs.print.put_classes.Given as goal

abbrev pub invariant-loop-class : goal.invariant-loop-class
invariant-loop-class l = l.out ≡ l.initial.out ++ all_text class_text (map class_of (take l.class-index l.classes))
