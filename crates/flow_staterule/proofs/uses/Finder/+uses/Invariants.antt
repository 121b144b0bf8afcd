use Rattle.std.proofs.Common.{◌≡◌, ◌+◌, ◌*◌, ◌++◌, drop}
use Rattle.flow_tree.specs.StmtView.{body_of, branches_of}
use Rattle.flow_staterule.specs.Uses.{choose_uses}
use Rattle.flow_staterule.specs.View.{in_force, Extends, found, in_branches}
use Rattle.flow_staterule.proofs.uses.Finder.+uses.Given as goal

-- what has been found, and then the rest, is the whole
abbrev pub invariant-body-loop-stmt : goal.invariant-body-loop-stmt
invariant-body-loop-stmt l =
    (found l.self l.next (body_of (drop l.stmt-index l.stmts)) ≡ found l.initial.self l.fn.here (body_of l.stmts))
    × Extends l.initial.self.variables l.self.variables

abbrev pub invariant-choose-loop-branch : goal.invariant-choose-loop-branch
invariant-choose-loop-branch l =
    (in_branches l.self l.fn.here.point l.inner (branches_of (drop l.branch-index l.branches))
    ≡ l.initial.self.uses.items ++ choose_uses l.fn.here.looked.0 (in_force l.initial.self.variables) l.fn.here.point l.fn.here.caught (branches_of l.branches))
    × (l.self.variables.list.items ≡ l.initial.self.variables.list.items)

-- nodes, then lists and parts, then what joins them
abbrev pub decreases-inside : goal.decreases-inside
decreases-inside l = 8 * goal.size-inside l

abbrev pub decreases-stmt : goal.decreases-stmt
decreases-stmt l = 8 * goal.size-stmt l + 1

abbrev pub decreases-branch : goal.decreases-branch
decreases-branch l = 8 * goal.size-branch l

abbrev pub decreases-body : goal.decreases-body
decreases-body l = 8 * goal.size-body l + 2

abbrev pub decreases-choose : goal.decreases-choose
decreases-choose l = 8 * goal.size-choose l + 2

abbrev pub decreases-scope : goal.decreases-scope
decreases-scope l = 8 * goal.size-scope l + 3

abbrev pub decreases-part : goal.decreases-part
decreases-part l = 8 * goal.size-part l + 2

abbrev pub decreases-step : goal.decreases-step
decreases-step l = 8 * goal.size-step l + 3

abbrev pub decreases-handled : goal.decreases-handled
decreases-handled l = 8 * goal.size-handled l + 4

abbrev pub decreases-otherwise : goal.decreases-otherwise
decreases-otherwise l = 8 * goal.size-otherwise l + 4
