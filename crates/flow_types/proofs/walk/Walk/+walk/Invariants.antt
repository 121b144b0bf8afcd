use Rattle.std.proofs.Common.{◌≡◌, ◌+◌, ◌*◌, drop}
use Rattle.flow_tree.specs.StmtView.{body_of, branches_of}
use Rattle.flow_types.specs.WalkView.{env_of}
use Rattle.flow_types.proofs.Walking.{Along, Beside}
use Rattle.flow_types.proofs.walk.Walk.+walk.Given as goal

-- along the statements of a body, and the branches of a choose
abbrev pub invariant-body-loop-stmt : goal.invariant-body-loop-stmt
invariant-body-loop-stmt l = Along (env_of l.initial.self l.around) (env_of l.self l.around) (body_of (drop l.stmt-index l.body)) (body_of l.body)

abbrev pub invariant-branches-loop-branch : goal.invariant-branches-loop-branch
invariant-branches-loop-branch l =
    Beside (env_of l.initial.self l.around) (env_of l.self l.around) (branches_of (drop l.branch-index l.branches)) (branches_of l.branches)

-- a statement, then a list, then a list in a scope of its own, then an option
abbrev pub decreases-stmt : goal.decreases-stmt
decreases-stmt l = 4 * goal.size-stmt l

abbrev pub decreases-branch : goal.decreases-branch
decreases-branch l = 4 * goal.size-branch l

abbrev pub decreases-body : goal.decreases-body
decreases-body l = 4 * goal.size-body l + 1

abbrev pub decreases-branches : goal.decreases-branches
decreases-branches l = 4 * goal.size-branches l + 1

abbrev pub decreases-scoped : goal.decreases-scoped
decreases-scoped l = 4 * goal.size-scoped l + 2

abbrev pub decreases-handler : goal.decreases-handler
decreases-handler l = 4 * goal.size-handler l + 2

abbrev pub decreases-otherwise : goal.decreases-otherwise
decreases-otherwise l = 4 * goal.size-otherwise l + 3

abbrev pub decreases-part : goal.decreases-part
decreases-part l = 4 * goal.size-part l + 3
