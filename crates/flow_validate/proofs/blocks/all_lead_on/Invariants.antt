use Rattle.std.proofs.Common.{◌≡◌, drop, map}
use Rattle.flow_class.specs.View.{block_of}
use Rattle.flow_class.specs.Classes.{BlockTree}
use Rattle.flow_valid.specs.Validity.{all_blocks, leads_on}
use Rattle.flow_validate.proofs.blocks.all_lead_on.Given as goal

abbrev pub invariant-loop-number : goal.invariant-loop-number
invariant-loop-number l =
    all_blocks (λ n (b : BlockTree). leads_on n b.last) l.number (map block_of (drop l.number l.blocks))
    ≡ all_blocks (λ n (b : BlockTree). leads_on n b.last) 0 (map block_of l.blocks)
