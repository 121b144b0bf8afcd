use Rattle.std.proofs.Common.{◌≡◌, ◌+◌, ◌*◌, ◌++◌, drop}
use Rattle.flow_tree.specs.StmtView.{body_of, branches_of}
use Rattle.flow_warning.specs.Warnings.{warnings, branch_warnings}
use Rattle.flow_warning.proofs.find.+warnings.Given as goal

abbrev pub invariant-add_body-loop-number : goal.invariant-add_body-loop-number
invariant-add_body-loop-number l = l.found.items ++ warnings (body_of (drop l.number l.stmts)) ≡ l.initial.found.items ++ warnings (body_of l.stmts)

abbrev pub invariant-add_branches-loop-branch : goal.invariant-add_branches-loop-branch
invariant-add_branches-loop-branch l =
    l.found.items ++ branch_warnings (branches_of (drop l.branch-index l.branches)) ≡ l.initial.found.items ++ branch_warnings (branches_of l.branches)

-- nodes, then lists, then options
abbrev pub decreases-add_stmt : goal.decreases-add_stmt
decreases-add_stmt l = 4 * goal.size-add_stmt l

abbrev pub decreases-add_branch : goal.decreases-add_branch
decreases-add_branch l = 4 * goal.size-add_branch l

abbrev pub decreases-add_body : goal.decreases-add_body
decreases-add_body l = 4 * goal.size-add_body l + 1

abbrev pub decreases-add_branches : goal.decreases-add_branches
decreases-add_branches l = 4 * goal.size-add_branches l + 1

abbrev pub decreases-add_else : goal.decreases-add_else
decreases-add_else l = 4 * goal.size-add_else l + 2
