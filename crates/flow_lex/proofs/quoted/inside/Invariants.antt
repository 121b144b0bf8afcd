use Rattle.std.proofs.Common.{◌≤◌, ◌-◌, length, take}
use Rattle.flow_tree.specs.Spelling.{Inside}
use Rattle.flow_lex.proofs.quoted.inside.Given as goal

abbrev pub invariant-loop-b : goal.invariant-loop-b
invariant-loop-b l = record {
  within : l.n ≤ length l.text;
  inside : Inside (take l.n l.text) l.held.items;
}

abbrev pub decreases-loop-b : goal.decreases-loop-b
decreases-loop-b l = length l.text - l.n
