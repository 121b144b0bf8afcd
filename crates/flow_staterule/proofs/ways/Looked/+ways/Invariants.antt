use Rattle.std.proofs.Common.{◌≡◌, ◌+◌, ◌*◌, ◌-◌, drop, length}
use Rattle.flow_tree.specs.StmtView.{body_of, branches_of}
use Rattle.flow_ast.specs.Slots.{body_groups, branch_groups}
use Rattle.flow_staterule.specs.Ways.{ways, branch_ways, sequence, both}
use Rattle.flow_staterule.proofs.ways.Looked.+ways.Given as goal

-- what has been passed, and then the rest, is the whole
abbrev pub invariant-body-loop-stmt : goal.invariant-body-loop-stmt
invariant-body-loop-stmt l = let rest = body_of (drop l.stmt-index l.stmts) in
    (sequence l.passed.ways (ways l.passed.looked.0 rest) ≡ ways l.fn.self.0 (body_of l.stmts))
    × (l.passed.looked.0 - length (body_groups rest) ≡ l.fn.self.0 - length (body_groups (body_of l.stmts)))

abbrev pub invariant-branches-loop-branch : goal.invariant-branches-loop-branch
invariant-branches-loop-branch l = let rest = branches_of (drop l.branch-index l.branches) in
    (both l.passed.ways (branch_ways l.passed.looked.0 rest) ≡ branch_ways l.fn.self.0 (branches_of l.branches))
    × (l.passed.looked.0 - length (branch_groups rest) ≡ l.fn.self.0 - length (branch_groups (branches_of l.branches)))

-- nodes, then lists and parts, then what joins them
abbrev pub decreases-stmt : goal.decreases-stmt
decreases-stmt l = 6 * goal.size-stmt l

abbrev pub decreases-branch : goal.decreases-branch
decreases-branch l = 6 * goal.size-branch l

abbrev pub decreases-body : goal.decreases-body
decreases-body l = 6 * goal.size-body l + 1

abbrev pub decreases-part : goal.decreases-part
decreases-part l = 6 * goal.size-part l + 1

abbrev pub decreases-joined : goal.decreases-joined
decreases-joined l = 6 * goal.size-joined l + 2

abbrev pub decreases-looped : goal.decreases-looped
decreases-looped l = 6 * goal.size-looped l + 2

abbrev pub decreases-branching : goal.decreases-branching
decreases-branching l = 6 * goal.size-branching l + 3

abbrev pub decreases-branches : goal.decreases-branches
decreases-branches l = 6 * goal.size-branches l + 3
