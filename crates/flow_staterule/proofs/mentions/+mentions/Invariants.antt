use Rattle.std.proofs.Common.{◌≡◌, ◌+◌, ◌*◌, ◌++◌, drop}
use Rattle.flow_tree.specs.View.{exprs_of}
use Rattle.flow_staterule.specs.Uses.{exprs_uses}
use Rattle.flow_staterule.specs.View.{in_force}
use Rattle.flow_staterule.proofs.mentions.+mentions.Given as goal

abbrev pub invariant-add_exprs-loop-expr : goal.invariant-add_exprs-loop-expr
invariant-add_exprs-loop-expr l =
    l.found.items ++ exprs_uses (in_force l.variables) l.point (exprs_of (drop l.expr-index l.exprs))
    ≡ l.initial.found.items ++ exprs_uses (in_force l.variables) l.point (exprs_of l.exprs)

abbrev pub decreases-add_expr : goal.decreases-add_expr
decreases-add_expr l = 2 * goal.size-add_expr l

abbrev pub decreases-add_exprs : goal.decreases-add_exprs
decreases-add_exprs l = 2 * goal.size-add_exprs l + 1
