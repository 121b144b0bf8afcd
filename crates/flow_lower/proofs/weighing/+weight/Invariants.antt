use Rattle.std.proofs.Common.{◌≡◌, ◌+◌, ◌*◌, drop}
use Rattle.flow_tree.specs.StmtView.{body_of, branches_of}
use Rattle.flow_split.specs.Weight.{body_weight, branch_weight}
use Rattle.flow_lower.specs.Weighing.{capped}
use Rattle.flow_lower.proofs.weighing.+weight.Given as goal

abbrev pub invariant-body_weight-loop-stmt : goal.invariant-body_weight-loop-stmt
invariant-body_weight-loop-stmt l =
    (capped (l.weight + body_weight (body_of (drop l.stmt-index l.body))) ≡ capped (body_weight (body_of l.body))) × (capped l.weight ≡ l.weight)

abbrev pub invariant-branches_weight-loop-branch : goal.invariant-branches_weight-loop-branch
invariant-branches_weight-loop-branch l =
    (capped (l.weight + branch_weight (branches_of (drop l.branch-index l.branches))) ≡ capped (branch_weight (branches_of l.branches))) × (capped l.weight ≡ l.weight)

-- nodes, then lists, then options
abbrev pub decreases-stmt_weight : goal.decreases-stmt_weight
decreases-stmt_weight l = 4 * goal.size-stmt_weight l

abbrev pub decreases-branch_weight : goal.decreases-branch_weight
decreases-branch_weight l = 4 * goal.size-branch_weight l

abbrev pub decreases-body_weight : goal.decreases-body_weight
decreases-body_weight l = 4 * goal.size-body_weight l + 1

abbrev pub decreases-branches_weight : goal.decreases-branches_weight
decreases-branches_weight l = 4 * goal.size-branches_weight l + 1

abbrev pub decreases-else_weight : goal.decreases-else_weight
decreases-else_weight l = 4 * goal.size-else_weight l + 2

abbrev pub decreases-part_weight : goal.decreases-part_weight
decreases-part_weight l = 4 * goal.size-part_weight l + 2
