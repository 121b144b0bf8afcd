use Rattle.std.proofs.Common.{◌≡◌, ◌+◌, ◌*◌, ◌++◌, drop}
use Rattle.flow_tree.specs.StmtView.{body_of, branches_of}
use Rattle.flow_explain.specs.Texts.{waits_in, branch_waits}
use Rattle.flow_explain.proofs.texts.+waits.Given as goal

abbrev pub invariant-list_body-loop-stmt : goal.invariant-list_body-loop-stmt
invariant-list_body-loop-stmt l =
    l.waits.items ++ waits_in (body_of (drop l.stmt-index l.stmts)) ≡ l.initial.waits.items ++ waits_in (body_of l.stmts)

abbrev pub invariant-list_branches-loop-branch : goal.invariant-list_branches-loop-branch
invariant-list_branches-loop-branch l =
    l.waits.items ++ branch_waits (branches_of (drop l.branch-index l.branches)) ≡ l.initial.waits.items ++ branch_waits (branches_of l.branches)

-- nodes, then lists, then options
abbrev pub decreases-list_stmt : goal.decreases-list_stmt
decreases-list_stmt l = 4 * goal.size-list_stmt l

abbrev pub decreases-list_branch : goal.decreases-list_branch
decreases-list_branch l = 4 * goal.size-list_branch l

abbrev pub decreases-list_body : goal.decreases-list_body
decreases-list_body l = 4 * goal.size-list_body l + 1

abbrev pub decreases-list_branches : goal.decreases-list_branches
decreases-list_branches l = 4 * goal.size-list_branches l + 1

abbrev pub decreases-list_else : goal.decreases-list_else
decreases-list_else l = 4 * goal.size-list_else l + 2

abbrev pub decreases-list_part : goal.decreases-list_part
decreases-list_part l = 4 * goal.size-list_part l + 2
