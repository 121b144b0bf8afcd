use Rattle.std.proofs.Common.{◌+◌, drop}
use Rattle.flow_tree.specs.StmtView.{body_of, branches_of}
use Rattle.flow_split.specs.Contexts.{names_in, slots_in, around_of}
use Rattle.flow_split.specs.Emitting.{emitted}
use Rattle.flow_split.proofs.Loops.{Going}
use Rattle.flow_split.proofs.Choices.{Branching}
use Rattle.flow_split.proofs.Weights.{stmt_weight, branch_weight, body_weight, branches_weight, part_of}
use Rattle.flow_split.proofs.emitter.Emitter.+lower.Given as goal

abbrev pub invariant-put_body-loop-stmt : goal.invariant-put_body-loop-stmt
invariant-put_body-loop-stmt l =
    Going (names_in l.context) (slots_in l.context) (around_of l.around) (body_of l.body) (body_of (drop l.stmt-index l.body)) (emitted l.initial.self) (emitted l.self)

abbrev pub invariant-put_branches-loop-branch : goal.invariant-put_branches-loop-branch
invariant-put_branches-loop-branch l =
    Branching (names_in l.context) (slots_in l.context) (around_of l.around) (branches_of l.branches) (branches_of (drop l.branch-index l.branches)) (emitted l.initial.self) (emitted l.self)

abbrev pub decreases-put_stmt : goal.decreases-put_stmt
decreases-put_stmt l = stmt_weight l.stmt.now

abbrev pub decreases-put_body : goal.decreases-put_body
decreases-put_body l = body_weight l.body.now + 1

abbrev pub decreases-put_scope : goal.decreases-put_scope
decreases-put_scope l = body_weight l.body.now + 2

abbrev pub decreases-put_handler : goal.decreases-put_handler
decreases-put_handler l = body_weight l.handler.now + 2

abbrev pub decreases-put_branch : goal.decreases-put_branch
decreases-put_branch l = branch_weight l.branch.now

abbrev pub decreases-put_branches : goal.decreases-put_branches
decreases-put_branches l = branches_weight l.branches.now + 1

abbrev pub decreases-put_part : goal.decreases-put_part
decreases-put_part l = part_of l.part.now + 1

abbrev pub decreases-put_block : goal.decreases-put_block
decreases-put_block l = body_weight l.body.now + 3

abbrev pub decreases-put_if : goal.decreases-put_if
decreases-put_if l = body_weight l.body.now + 3

abbrev pub decreases-put_if_else : goal.decreases-put_if_else
decreases-put_if_else l = body_weight l.body.now + body_weight l.other.now + 5

abbrev pub decreases-put_loop : goal.decreases-put_loop
decreases-put_loop l = body_weight l.body.now + 3

abbrev pub decreases-put_while : goal.decreases-put_while
decreases-put_while l = body_weight l.body.now + 3

abbrev pub decreases-put_for : goal.decreases-put_for
decreases-put_for l = part_of l.init.now + part_of l.step.now + body_weight l.body.now + 10

abbrev pub decreases-put_try : goal.decreases-put_try
decreases-put_try l = body_weight l.body.now + body_weight l.handler.now + 5

abbrev pub decreases-put_choose : goal.decreases-put_choose
decreases-put_choose l = branches_weight l.branches.now + 3
