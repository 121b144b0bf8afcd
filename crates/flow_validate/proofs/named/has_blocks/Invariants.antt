use Rattle.std.proofs.Common.{◌≡◌, drop, map}
use Rattle.std.specs.List.{list_all}
use Rattle.flow_class.specs.View.{class_of, block_of}
use Rattle.flow_valid.specs.Named.{has_named}
use Rattle.flow_validate.proofs.named.has_blocks.Given as goal

abbrev pub invariant-loop-block : goal.invariant-loop-block
invariant-loop-block l =
    list_all (has_named (class_of l.class)) (map block_of (drop l.block-index l.blocks)) ≡ list_all (has_named (class_of l.class)) (map block_of l.blocks)
