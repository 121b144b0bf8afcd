use Rattle.std.proofs.Common.{◌≡◌, ◌+◌, drop}
use Rattle.flow_tree.specs.StmtView.{body_of, branches_of}
use Rattle.flow_split.specs.Counts.{blocks_in, locals_in, branch_blocks, branch_local_count, rest_blocks}
use Rattle.flow_split.proofs.Weights.{stmt_weight, branch_weight, body_weight, branches_weight, part_of}
use Rattle.flow_split.proofs.counts.+size.Given as goal

abbrev pub invariant-body_size-loop-stmt : goal.invariant-body_size-loop-stmt
invariant-body_size-loop-stmt l =
    (l.size.blocks + rest_blocks l.goes_on l.tried (body_of (drop l.stmt-index l.body)) ≡ blocks_in l.tried (body_of l.body))
    × (l.size.locals + locals_in (body_of (drop l.stmt-index l.body)) ≡ locals_in (body_of l.body))

abbrev pub invariant-branches_size-loop-branch : goal.invariant-branches_size-loop-branch
invariant-branches_size-loop-branch l =
    (l.size.blocks + branch_blocks l.tried (branches_of (drop l.branch-index l.branches)) ≡ branch_blocks l.tried (branches_of l.branches))
    × (l.size.locals + branch_local_count (branches_of (drop l.branch-index l.branches)) ≡ branch_local_count (branches_of l.branches))

-- a node, then a list, then a list with the blocks around it
abbrev pub decreases-stmt_size : goal.decreases-stmt_size
decreases-stmt_size l = stmt_weight l.stmt.now

abbrev pub decreases-branch_size : goal.decreases-branch_size
decreases-branch_size l = branch_weight l.branch.now

abbrev pub decreases-body_size : goal.decreases-body_size
decreases-body_size l = body_weight l.body.now + 1

abbrev pub decreases-branches_size : goal.decreases-branches_size
decreases-branches_size l = branches_weight l.branches.now + 1

abbrev pub decreases-part_size : goal.decreases-part_size
decreases-part_size l = part_of l.part.now + 1

abbrev pub decreases-body_with : goal.decreases-body_with
decreases-body_with l = body_weight l.body.now + 2

abbrev pub decreases-choose_size : goal.decreases-choose_size
decreases-choose_size l = branches_weight l.branches.now + 2

abbrev pub decreases-if_else_size : goal.decreases-if_else_size
decreases-if_else_size l = body_weight l.body.now + body_weight l.other.now + 3

abbrev pub decreases-for_size : goal.decreases-for_size
decreases-for_size l = part_of l.init.now + part_of l.step.now + body_weight l.body.now + 3

abbrev pub decreases-try_size : goal.decreases-try_size
decreases-try_size l = body_weight l.body.now + body_weight l.handler.now + 3
