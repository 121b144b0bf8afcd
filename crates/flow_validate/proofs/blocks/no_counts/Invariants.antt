use Rattle.std.proofs.Common.{◌≡◌, ◌++◌, drop}
use Rattle.flow_validate.specs.Counting.{zeros}
use Rattle.flow_validate.proofs.blocks.no_counts.Given as goal

abbrev pub invariant-loop : goal.invariant-loop
invariant-loop l = l.counts.items ++ zeros (drop l.index l.groups) ≡ zeros l.groups
