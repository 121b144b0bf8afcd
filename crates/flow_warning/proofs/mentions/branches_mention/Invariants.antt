use Rattle.std.proofs.Common.{◌≡◌, drop}
use Rattle.flow_tree.specs.StmtView.{branches_of}
use Rattle.flow_warning.specs.Walks.{branches_mention}
use Rattle.flow_warning.proofs.mentions.branches_mention.Given as goal

abbrev pub invariant-loop-branch : goal.invariant-loop-branch
invariant-loop-branch l = branches_mention l.name (branches_of (drop l.branch-index l.branches)) ≡ branches_mention l.name (branches_of l.branches)
