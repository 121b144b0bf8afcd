use Rattle.std.proofs.Common.{◌≡◌, drop, nat_eq}
use Rattle.std.specs.List.{list_all}
use Rattle.flow_validate.proofs.blocks.are_all_one.Given as goal

abbrev pub invariant-loop-count : goal.invariant-loop-count
invariant-loop-count l = list_all (nat_eq 1) (drop l.count-index l.counts) ≡ list_all (nat_eq 1) l.counts
