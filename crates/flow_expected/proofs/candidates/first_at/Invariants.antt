use Rattle.std.proofs.Common.{◌≢◌, ◌-◌, ◌<◌, ◌≤◌, ℕ, length}
use Rattle.flow_tree.specs.GrammarAnswer.{place_at}
use Rattle.flow_expected.proofs.candidates.first_at.Given as goal

abbrev pub invariant-loop-number : goal.invariant-loop-number
invariant-loop-number l = record {
  within : l.number ≤ length l.fn.tokens.spots.items;
  first : (j : ℕ) → j < l.number → place_at l.fn.tokens j ≢ l.fn.at;
}

abbrev pub decreases-loop-number : goal.decreases-loop-number
decreases-loop-number l = length l.fn.tokens.spots.items - l.number
