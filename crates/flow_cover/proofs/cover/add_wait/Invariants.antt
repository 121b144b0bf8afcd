use Rattle.flow_cover.specs.Covers.{own_branch}
use Rattle.flow_cover.proofs.Numbering.{Ahead}
use Rattle.flow_cover.proofs.cover.add_wait.Given as goal

abbrev pub invariant-loop-branch : goal.invariant-loop-branch
invariant-loop-branch l = Ahead (own_branch l.text l.actor l.number) l.wait.branches 0 l.branch l.branch l.initial.branches.items l.branches.items
