use Rattle.std.proofs.Common.{◌+◌, ◌*◌, ◌-◌, length}
use Rattle.flow_tree.specs.View.{expr_of, exprs_of}
use Rattle.flow_exprs.specs.Answer.{ReadsExpr}
use Rattle.flow_exprs.proofs.ExprSteps.{Args}
use Rattle.flow_exprs.proofs.expr.+parse.Given as goal

abbrev pub decreases-arguments : goal.decreases-arguments
decreases-arguments l = 8 * (length l.spots.now - l.from) + 6

abbrev pub decreases-expression : goal.decreases-expression
decreases-expression l = 8 * (length l.spots.now - l.from) + 5

abbrev pub decreases-operand : goal.decreases-operand
decreases-operand l = 8 * (length l.spots.now - l.from) + 4

abbrev pub decreases-postfix : goal.decreases-postfix
decreases-postfix l = 8 * (length l.spots.now - l.from) + 3

abbrev pub decreases-primary : goal.decreases-primary
decreases-primary l = 8 * (length l.spots.now - l.from) + 2

abbrev pub decreases-named : goal.decreases-named
decreases-named l = 8 * (length l.spots.now - l.from) + 1

abbrev pub decreases-bracket : goal.decreases-bracket
decreases-bracket l = 8 * (length l.spots.now - l.from) + 1

abbrev pub decreases-negated : goal.decreases-negated
decreases-negated l = 8 * (length l.spots.now - l.from)

abbrev pub decreases-minus : goal.decreases-minus
decreases-minus l = 8 * (length l.spots.now - l.from)

abbrev pub decreases-with_right : goal.decreases-with_right
decreases-with_right l = 8 * (length l.spots.now - l.left.to)

abbrev pub decreases-with_dot : goal.decreases-with_dot
decreases-with_dot l = 8 * (length l.spots.now - l.left.to)

abbrev pub decreases-with_index : goal.decreases-with_index
decreases-with_index l = 8 * (length l.spots.now - l.base.to)

abbrev pub invariant-expression-loop-op : goal.invariant-expression-loop-op
invariant-expression-loop-op l = ReadsExpr l.spots l.from l.least l.depth 7 (expr_of l.left.expr) l.left.high l.left.to

abbrev pub decreases-expression-loop-op : goal.decreases-expression-loop-op
decreases-expression-loop-op l = length l.spots - l.left.to

abbrev pub invariant-postfix-suffixes : goal.invariant-postfix-suffixes
invariant-postfix-suffixes l = ReadsExpr l.spots l.from 6 l.depth 8 (expr_of l.left.expr) l.left.high l.left.to

abbrev pub decreases-postfix-suffixes : goal.decreases-postfix-suffixes
decreases-postfix-suffixes l = length l.spots - l.left.to

abbrev pub invariant-arguments-loop-args : goal.invariant-arguments-loop-args
invariant-arguments-loop-args l = Args l.spots l.from l.depth (exprs_of l.args.items) l.high l.at

abbrev pub decreases-arguments-loop-args : goal.decreases-arguments-loop-args
decreases-arguments-loop-args l = length l.spots - l.at
