use Rattle.std.proofs.Common.{◌≡◌, ◌+◌, ◌*◌, drop}
use Rattle.flow_tree.specs.View.{exprs_of}
use Rattle.flow_warning.specs.Walks.{mention}
use Rattle.flow_warning.proofs.mentions.+mentions.Given as goal

abbrev pub invariant-mention-loop-expr : goal.invariant-mention-loop-expr
invariant-mention-loop-expr l = mention l.name (exprs_of (drop l.expr-index l.exprs)) ≡ mention l.name (exprs_of l.exprs)

abbrev pub decreases-mentions : goal.decreases-mentions
decreases-mentions l = 2 * goal.size-mentions l

abbrev pub decreases-mention : goal.decreases-mention
decreases-mention l = 2 * goal.size-mention l + 1
