use Rattle.std.proofs.Common.{◌≡◌, ◌++◌, ◌+◌, ◌*◌, drop}
use Rattle.flow_tree.specs.StmtView.{body_of, branches_of}
use Rattle.flow_types.specs.Variables.{body_variables, branch_variables}
use Rattle.flow_types.specs.VariablesView.{variable_list}
use Rattle.flow_types.proofs.collect.+add.Given as goal

abbrev pub invariant-add_body-loop-stmt : goal.invariant-add_body-loop-stmt
invariant-add_body-loop-stmt l =
    variable_list l.found.items ++ body_variables (body_of (drop l.stmt-index l.body)) ≡ variable_list l.initial.found.items ++ body_variables (body_of l.body)

abbrev pub invariant-add_branches-loop-branch : goal.invariant-add_branches-loop-branch
invariant-add_branches-loop-branch l =
    variable_list l.found.items ++ branch_variables (branches_of (drop l.branch-index l.branches))
    ≡ variable_list l.initial.found.items ++ branch_variables (branches_of l.branches)

-- a statement, then a list, then an option
abbrev pub decreases-add_stmt : goal.decreases-add_stmt
decreases-add_stmt l = 3 * goal.size-add_stmt l

abbrev pub decreases-add_branch : goal.decreases-add_branch
decreases-add_branch l = 3 * goal.size-add_branch l

abbrev pub decreases-add_body : goal.decreases-add_body
decreases-add_body l = 3 * goal.size-add_body l + 1

abbrev pub decreases-add_branches : goal.decreases-add_branches
decreases-add_branches l = 3 * goal.size-add_branches l + 1

abbrev pub decreases-add_else : goal.decreases-add_else
decreases-add_else l = 3 * goal.size-add_else l + 2

abbrev pub decreases-add_part : goal.decreases-add_part
decreases-add_part l = 3 * goal.size-add_part l + 2
