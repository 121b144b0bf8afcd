use Rattle.std.proofs.Common.{◌≡◌, map, take}
use Rattle.flow_class.specs.View as text
use Rattle.flow_code.specs.Coding.{coded_block}
use Rattle.flow_code.specs.Coder.{coding_of}
use Rattle.flow_code.specs.View.{block_of}
use Rattle.flow_code.proofs.coding.Coder.blocks.Given as goal

abbrev pub invariant-loop-block : goal.invariant-loop-block
invariant-loop-block l =
    map block_of l.blocks.items ≡ map (coded_block (coding_of l.self) (text.class_of l.class)) (map text.block_of (take l.block-index l.class.blocks.items))
