use Rattle.flow_class.specs.View.{block_of}
use Rattle.flow_classprint.specs.ClassText.{all_text, block_text}
use Rattle.flow_classprint.proofs.Steps.{Ahead}
use Rattle.flow_classprint.proofs.class.put_blocks.Given as goal

abbrev pub invariant-loop-block : goal.invariant-loop-block
invariant-loop-block l = Ahead block_text block_of l.blocks 0 l.number l.block-index l.initial.out l.out
