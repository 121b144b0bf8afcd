use Rattle.std.proofs.Common.{◌≡◌, ◌≤◌, take}
use Rattle.flow_simplify.specs.Simpler.{uncommon}
use Rattle.flow_simplify.proofs.simpler.uncommon.Given as goal

abbrev pub invariant-loop-word : goal.invariant-loop-word
invariant-loop-word l = record {
  count : l.count ≡ uncommon l.common (take l.word-index l.words);
  most : l.count ≤ l.word-index;
}
