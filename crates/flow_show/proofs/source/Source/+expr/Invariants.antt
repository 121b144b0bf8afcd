use Rattle.std.proofs.Common.{◌≡◌, ◌++◌, ◌+◌, ◌*◌, max, take}
use Rattle.flow_tree.proofs.expr.Expr.TheLaws.{the_size}
use Rattle.flow_tree.specs.View.{exprs_of}
use Rattle.flow_tree.specs.Canon.{more_args_text}
use Rattle.flow_show.proofs.source.Source.+expr.Given as goal

abbrev pub invariant-put_more_args-loop-arg : goal.invariant-put_more_args-loop-arg
invariant-put_more_args-loop-arg l = l.self ≡ l.initial.self ++ more_args_text (exprs_of (take l.arg-index l.args))

-- an expression, then an operand with what stands around it, an index and arguments behind another, then all arguments, then a call
abbrev pub decreases-put_expr : goal.decreases-put_expr
decreases-put_expr l = 4 * goal.size-put_expr l

abbrev pub decreases-put_not : goal.decreases-put_not
decreases-put_not l = 4 * goal.size-put_not l + 1

abbrev pub decreases-put_negated : goal.decreases-put_negated
decreases-put_negated l = 4 * goal.size-put_negated l + 1

abbrev pub decreases-put_field : goal.decreases-put_field
decreases-put_field l = 4 * goal.size-put_field l + 1

abbrev pub decreases-put_right : goal.decreases-put_right
decreases-put_right l = 4 * goal.size-put_right l + 1

abbrev pub decreases-put_index : goal.decreases-put_index
decreases-put_index l = 4 * max (the_size l.of.now) (the_size l.index.now) + 1

abbrev pub decreases-put_more_args : goal.decreases-put_more_args
decreases-put_more_args l = 4 * goal.size-put_more_args l + 1

abbrev pub decreases-put_args : goal.decreases-put_args
decreases-put_args l = 4 * goal.size-put_args l + 2

abbrev pub decreases-put_function_call : goal.decreases-put_function_call
decreases-put_function_call l = 4 * goal.size-put_function_call l + 3
