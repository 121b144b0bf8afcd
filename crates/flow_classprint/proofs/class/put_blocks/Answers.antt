use Rattle.std.proofs.lemmas.List.{drop_all}
use Rattle.std.proofs.Common.{arith}
use Rattle.flow_class.specs.View.{block_of}
use Rattle.flow_classprint.specs.ClassText.{block_text}
use Rattle.flow_classprint.proofs.Steps.{numbered_step, numbered_whole, next_ahead}
use Rattle.flow_classprint.proofs.class.put_blocks.Goals as goal

pub loop-block-preserved : goal.loop-block-preserved
loop-block-preserved c =
    next_ahead block_text block_of c.args.blocks.now 0 c.loop-block.number c.in_ok-number.number c.loop-block.block-index c.block-item.result _ _ _ _ c.in_ok-number.ensures c.loop-block-test.true
    c.block-item.is c.loop-block.invariant c.in_ok-put_block.ensures

pub returns : goal.returns
returns c =
    numbered_whole block_text block_of c.args.blocks.now 0 c.loop-block.number c.loop-block.block-index _ _
    (drop_all c.loop-block.block-index c.args.blocks.now c.loop-block-test.false) c.loop-block.invariant
