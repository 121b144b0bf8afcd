use Rattle.std.proofs.Common.{refl, arith}
use Rattle.flow_class.specs.View.{class_of}
use Rattle.flow_base.proofs.Growing.{grows_trans}
use Rattle.flow_classprint.specs.ClassText.{class_text}
use Rattle.flow_classprint.proofs.Steps.{part_more, written_more}
use Rattle.flow_classprint.proofs.write.write_all.Goals as goal

pub returns-in_err-write_class-clause-part : goal.returns-in_err-write_class-clause-part
returns-in_err-write_class-clause-part g c =
    part_more class_text class_of _ _ _ c.args.classes.now c.loop-class.class-index _ c.class-item.result _ c.loop-class-test.true c.class-item.is refl c.loop-class.invariant.written
    c.write_class.ensures.part

pub loop-class-preserved : goal.loop-class-preserved
loop-class-preserved g c = record {
  written = written_more class_text class_of _ _ _ c.args.classes.now c.loop-class.class-index _ c.class-item.result _ c.loop-class-test.true c.class-item.is
      refl c.loop-class.invariant.written c.in_ok-write_class.ensures.whole;
  handed = grows_trans _ _ _ c.loop-class.invariant.handed c.write_class.ensures.handed;
  kept = omega (arith, c.loop-class.invariant.kept, c.write_class.ensures.cause.kept);
}
