use Rattle.std.proofs.Common.{◌≡◌, ◌+◌, ◌*◌, map, take}
use Rattle.flow_tree.specs.StmtView.{stmt_of, branch_of}
use Rattle.flow_tree.proofs.stmt.+copy.Given as goal

abbrev pub invariant-copy_stmts-loop-stmt : goal.invariant-copy_stmts-loop-stmt
invariant-copy_stmts-loop-stmt l = map stmt_of l.copies.items ≡ map stmt_of (take l.stmt-index l.stmts)

abbrev pub invariant-copy_branches-loop-branch : goal.invariant-copy_branches-loop-branch
invariant-copy_branches-loop-branch l = map branch_of l.copies.items ≡ map branch_of (take l.branch-index l.branches)

-- nodes, then lists and boxed options, then the option of a list
abbrev pub decreases-Stmt::copy : goal.decreases-Stmt::copy
decreases-Stmt::copy l = 3 * goal.size-Stmt::copy l

abbrev pub decreases-StmtKind::copy : goal.decreases-StmtKind::copy
decreases-StmtKind::copy l = 3 * goal.size-StmtKind::copy l

abbrev pub decreases-When::copy : goal.decreases-When::copy
decreases-When::copy l = 3 * goal.size-When::copy l

abbrev pub decreases-copy_simple : goal.decreases-copy_simple
decreases-copy_simple l = 3 * goal.size-copy_simple l + 1

abbrev pub decreases-copy_else : goal.decreases-copy_else
decreases-copy_else l = 3 * goal.size-copy_else l + 2

abbrev pub decreases-copy_stmts : goal.decreases-copy_stmts
decreases-copy_stmts l = 3 * goal.size-copy_stmts l + 1

abbrev pub decreases-copy_branches : goal.decreases-copy_branches
decreases-copy_branches l = 3 * goal.size-copy_branches l + 1
