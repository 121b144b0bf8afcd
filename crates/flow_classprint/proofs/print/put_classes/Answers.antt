use Rattle.flow_class.specs.View.{class_of}
use Rattle.flow_classprint.specs.ClassText.{class_text}
use Rattle.flow_classprint.proofs.Steps.{all_step, all_whole}
use Rattle.flow_classprint.proofs.print.put_classes.Goals as goal

pub loop-class-preserved : goal.loop-class-preserved
loop-class-preserved c =
    all_step class_text class_of c.args.classes.now c.loop-class.class-index c.class-item.result _ _ _ _ c.loop-class-test.true c.class-item.is c.loop-class.invariant c.in_ok-put_class.ensures

pub returns : goal.returns
returns c = all_whole class_text class_of c.args.classes.now c.loop-class.class-index _ _ c.loop-class-test.false c.loop-class.invariant
