use Rattle.std.proofs.Common.{◌≡◌, ◌+◌, ◌*◌, drop}
use Rattle.flow_tree.specs.StmtView.{body_of, branches_of}
use Rattle.flow_layout.specs.Laying.{laid, with_body, with_branches}
use Rattle.flow_layout.proofs.places.Layout.+lay.Given as goal

abbrev pub invariant-lay_body-loop-stmt : goal.invariant-lay_body-loop-stmt
invariant-lay_body-loop-stmt l = with_body (laid l.self) (body_of (drop l.stmt-index l.body)) ≡ with_body (laid l.initial.self) (body_of l.body)

abbrev pub invariant-lay_branches-loop-branch : goal.invariant-lay_branches-loop-branch
invariant-lay_branches-loop-branch l =
    with_branches (laid l.self) (branches_of (drop l.branch-index l.branches)) ≡ with_branches (laid l.initial.self) (branches_of l.branches)

-- a node, then a list, then the option of a node or of a list
abbrev pub decreases-lay_stmt : goal.decreases-lay_stmt
decreases-lay_stmt l = 4 * goal.size-lay_stmt l

abbrev pub decreases-lay_body : goal.decreases-lay_body
decreases-lay_body l = 4 * goal.size-lay_body l + 1

abbrev pub decreases-lay_branches : goal.decreases-lay_branches
decreases-lay_branches l = 4 * goal.size-lay_branches l + 1

abbrev pub decreases-lay_else : goal.decreases-lay_else
decreases-lay_else l = 4 * goal.size-lay_else l + 2

abbrev pub decreases-lay_part : goal.decreases-lay_part
decreases-lay_part l = 4 * goal.size-lay_part l + 2
