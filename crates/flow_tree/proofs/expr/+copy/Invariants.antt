use Rattle.std.proofs.Common.{◌≡◌, map, take}
use Rattle.flow_tree.specs.View.{expr_of}
use Rattle.flow_tree.proofs.expr.+copy.Given as goal

abbrev pub invariant-copy_exprs-loop-expr : goal.invariant-copy_exprs-loop-expr
invariant-copy_exprs-loop-expr l = map expr_of l.copies.items ≡ map expr_of (take l.expr-index l.exprs)
