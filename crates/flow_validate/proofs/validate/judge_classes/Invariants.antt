use Rattle.std.proofs.Common.{map}
use Rattle.flow_class.specs.View.{class_of}
use Rattle.flow_validate.specs.Verdicts.{AreSoundBelow}
use Rattle.flow_validate.proofs.validate.judge_classes.Given as goal

abbrev pub invariant-loop-place : goal.invariant-loop-place
invariant-loop-place l = AreSoundBelow l.names (map class_of l.classes) l.place
