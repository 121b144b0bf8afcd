use Rattle.std.proofs.Common.{◌≡◌, ◌+◌, ◌*◌, drop}
use Rattle.flow_tree.specs.StmtView.{body_of, branches_of}
use Rattle.flow_rules.specs.Closing.{and_then, either, ways, branch_ways}
use Rattle.flow_types.specs.ClosingView.{ways_view}
use Rattle.flow_types.proofs.closing.+ways.Given as goal

abbrev pub invariant-ways_of-loop-stmt : goal.invariant-ways_of-loop-stmt
invariant-ways_of-loop-stmt l = and_then (ways_view l.so_far) (ways (body_of (drop l.stmt-index l.body))) ≡ ways (body_of l.body)

abbrev pub invariant-branch_ways-loop-branch : goal.invariant-branch_ways-loop-branch
invariant-branch_ways-loop-branch l = either (ways_view l.so_far) (branch_ways (branches_of (drop l.branch-index l.branches))) ≡ branch_ways (branches_of l.branches)

-- a statement, then a list, then the option of a list
abbrev pub decreases-stmt_ways : goal.decreases-stmt_ways
decreases-stmt_ways l = 3 * goal.size-stmt_ways l

abbrev pub decreases-ways_of : goal.decreases-ways_of
decreases-ways_of l = 3 * goal.size-ways_of l + 1

abbrev pub decreases-branch_ways : goal.decreases-branch_ways
decreases-branch_ways l = 3 * goal.size-branch_ways l + 1

abbrev pub decreases-when_ways : goal.decreases-when_ways
decreases-when_ways l = 3 * goal.size-when_ways l

abbrev pub decreases-else_ways : goal.decreases-else_ways
decreases-else_ways l = 3 * goal.size-else_ways l + 2
