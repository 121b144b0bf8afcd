use Rattle.std.proofs.Common.{map, take}
use Rattle.flow_class.specs.View.{class_of, block_of}
use Rattle.flow_validate.specs.Small.{small_block}
use Rattle.flow_validate.specs.Joined.{AreJoined}
use Rattle.flow_validate.proofs.touch.Touches.of.Given as goal

abbrev pub invariant-loop-block : goal.invariant-loop-block
invariant-loop-block l = AreJoined l.touches (map (small_block (class_of l.class)) (map block_of (take l.block-index l.blocks)))
