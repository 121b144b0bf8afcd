use Rattle.std.proofs.Common.{◌≡◌, drop, map}
use Rattle.flow_class.specs.View.{block_of}
use Rattle.flow_validate.specs.Counting.{counted}
use Rattle.flow_validate.proofs.blocks.count_chosen.Given as goal

abbrev pub invariant-loop-block : goal.invariant-loop-block
invariant-loop-block l = counted (map block_of (drop l.block-index l.blocks)) l.counts.items ≡ counted (map block_of l.blocks) l.fn.counts.items
