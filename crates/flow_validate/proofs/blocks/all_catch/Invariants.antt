use Rattle.std.proofs.Common.{◌≡◌, drop, map}
use Rattle.flow_class.specs.View.{class_of, block_of}
use Rattle.flow_class.specs.Classes.{BlockTree}
use Rattle.flow_valid.specs.Validity.{all_blocks, catches}
use Rattle.flow_validate.proofs.blocks.all_catch.Given as goal

abbrev pub invariant-loop-number : goal.invariant-loop-number
invariant-loop-number l =
    all_blocks (λ n (b : BlockTree). catches (class_of l.class) n b.catcher) l.number (map block_of (drop l.number l.blocks))
    ≡ all_blocks (λ n (b : BlockTree). catches (class_of l.class) n b.catcher) 0 (map block_of l.blocks)
