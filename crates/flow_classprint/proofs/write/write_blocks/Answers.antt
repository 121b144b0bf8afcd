use Rattle.std.proofs.Common.{[], ◌++◌, ap, ◌∙◌, arith}
use Rattle.std.proofs.KnownBytes.{Appends-trans}
use Rattle.flow_base.proofs.Growing.{grows_trans}
use Rattle.flow_class.specs.View.{block_of}
use Rattle.flow_classprint.specs.ClassText.{block_text}
use Rattle.flow_classprint.proofs.Steps.{next_ahead, part_next}
use Rattle.flow_classprint.proofs.write.write_blocks.Goals as goal

pub returns-in_err-write_lines-clause-part : goal.returns-in_err-write_lines-clause-part
returns-in_err-write_lines-clause-part g c =
    let l = c.loop-block.invariant in
    part_next block_text block_of _ _ _ c.args.blocks.now 0 c.loop-block.number c.loop-block.block-index c.block-item.result _ l.text _ c.loop-block-test.true c.block-item.is l.ahead
    (c.deref.ensures.value ∙ c.in-Ok.ensures) l.written c.write_lines.ensures.part

pub returns-in_default-sum-clause-part : goal.returns-in_default-sum-clause-part
returns-in_default-sum-clause-part g c =
    let l = c.loop-block.invariant in
    part_next block_text block_of _ _ _ c.args.blocks.now 0 c.loop-block.number c.loop-block.block-index c.block-item.result _ l.text _ c.loop-block-test.true c.block-item.is l.ahead
    (c.deref.ensures.value ∙ c.in-Ok.ensures) l.written c.write_lines.ensures.part

pub loop-block-preserved : goal.loop-block-preserved
loop-block-preserved g c =
    let l = c.loop-block.invariant in
    let piece = c.deref.ensures.value ∙ c.in-Ok.ensures in record {
      text = l.text ++ c.deref.result.now;
      written = Appends-trans _ _ _ l.text c.deref.result.now l.written c.in_ok-write_lines.ensures.whole;
      ahead = next_ahead block_text block_of c.args.blocks.now 0 c.loop-block.number c.in-Ok-sum.next c.loop-block.block-index c.block-item.result _ [] l.text _
          c.in-Ok-sum.ensures c.loop-block-test.true c.block-item.is l.ahead (ap (λ z. l.text ++ z) piece);
      handed = grows_trans _ _ _ l.handed c.write_lines.ensures.handed;
      kept = omega (arith, l.kept, c.write_lines.ensures.cause.kept);
    }
