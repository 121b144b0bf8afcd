use Rattle.std.proofs.Common.{◌≡◌, ◌+◌, ◌*◌, drop}
use Rattle.flow_tree.specs.StmtView.{body_of}
use Rattle.flow_warning.specs.Walks.{alone, in_turn}
use Rattle.flow_warning.proofs.walks.+alone.Given as goal

-- what has been walked, and then the rest, is the whole
abbrev pub invariant-alone-loop-stmt : goal.invariant-alone-loop-stmt
invariant-alone-loop-stmt l = in_turn l.walks (alone l.name (body_of (drop l.stmt-index l.stmts))) ≡ alone l.name (body_of l.stmts)

-- nodes, then lists and parts, then what joins them
abbrev pub decreases-alone_in : goal.decreases-alone_in
decreases-alone_in l = 4 * goal.size-alone_in l

abbrev pub decreases-alone : goal.decreases-alone
decreases-alone l = 4 * goal.size-alone l + 1

abbrev pub decreases-alone_part : goal.decreases-alone_part
decreases-alone_part l = 4 * goal.size-alone_part l + 1

abbrev pub decreases-branching : goal.decreases-branching
decreases-branching l = 4 * goal.size-branching l + 2
