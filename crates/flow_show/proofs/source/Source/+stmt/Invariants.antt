use Rattle.std.proofs.Common.{◌≡◌, ◌++◌, ◌+◌, ◌*◌, drop}
use Rattle.flow_tree.specs.StmtView.{body_of, branches_of}
use Rattle.flow_tree.specs.Canon.{body_text, branches_text}
use Rattle.flow_show.proofs.source.Source.+stmt.Given as goal

abbrev pub invariant-put_body-loop-stmt : goal.invariant-put_body-loop-stmt
invariant-put_body-loop-stmt l = l.self ++ body_text l.level (body_of (drop l.stmt-index l.body)) ≡ l.initial.self ++ body_text l.level (body_of l.body)

abbrev pub invariant-put_whens-loop-branch : goal.invariant-put_whens-loop-branch
invariant-put_whens-loop-branch l = l.self ++ branches_text l.level (branches_of (drop l.branch-index l.branches)) ≡ l.initial.self ++ branches_text l.level (branches_of l.branches)

-- a node with others inside, then any node, then a list, then a list one level further in, then one with
-- the line that closes it, then the option of a list
abbrev pub decreases-put_nested : goal.decreases-put_nested
decreases-put_nested l = 6 * goal.size-put_nested l

abbrev pub decreases-put_when : goal.decreases-put_when
decreases-put_when l = 6 * goal.size-put_when l

abbrev pub decreases-put_stmt : goal.decreases-put_stmt
decreases-put_stmt l = 6 * goal.size-put_stmt l + 1

abbrev pub decreases-put_whens : goal.decreases-put_whens
decreases-put_whens l = 6 * goal.size-put_whens l + 1

abbrev pub decreases-put_body : goal.decreases-put_body
decreases-put_body l = 6 * goal.size-put_body l + 2

abbrev pub decreases-put_branches : goal.decreases-put_branches
decreases-put_branches l = 6 * goal.size-put_branches l + 2

abbrev pub decreases-put_deeper : goal.decreases-put_deeper
decreases-put_deeper l = 6 * goal.size-put_deeper l + 3

abbrev pub decreases-put_inner : goal.decreases-put_inner
decreases-put_inner l = 6 * goal.size-put_inner l + 4

abbrev pub decreases-put_else : goal.decreases-put_else
decreases-put_else l = 6 * goal.size-put_else l + 5

abbrev pub decreases-put_handler : goal.decreases-put_handler
decreases-put_handler l = 6 * goal.size-put_handler l + 5
