use Rattle.std.proofs.Common.{◌≡◌, ◌+◌, ◌≤◌, map, drop}
use Rattle.flow_value.specs.View.{value_of}
use Rattle.flow_code.specs.Resolved.Evaluation.{values_at}
use Rattle.flow_code.specs.Resolved.View.{node_of, nodes_of, actor_view_of}
use Rattle.flow_code.proofs.Resolved.Args.{prefixed}
use Rattle.flow_code.proofs.Resolved.Weights.{weight, weights}
use Rattle.flow_code.proofs.expr.evaluate.+evaluate.Given as goal

abbrev pub decreases-evaluate_resolved : goal.decreases-evaluate_resolved
decreases-evaluate_resolved g l = weight (node_of l.expr.now)

abbrev pub decreases-evaluate_field : goal.decreases-evaluate_field
decreases-evaluate_field g l = weight (node_of l.of.now) + 1

abbrev pub decreases-evaluate_call : goal.decreases-evaluate_call
decreases-evaluate_call g l = weight (node_of l.of.now) + weights (nodes_of l.args.now) + 3

abbrev pub decreases-evaluate_index : goal.decreases-evaluate_index
decreases-evaluate_index g l = weight (node_of l.of.now) + weight (node_of l.index.now) + 3

abbrev pub decreases-evaluate_element : goal.decreases-evaluate_element
decreases-evaluate_element g l = weight (node_of l.index.now) + 2

abbrev pub decreases-evaluate_method : goal.decreases-evaluate_method
decreases-evaluate_method g l = weights (nodes_of l.args.now) + 2

abbrev pub decreases-evaluate_binary : goal.decreases-evaluate_binary
decreases-evaluate_binary g l = weight (node_of l.left.now) + weight (node_of l.right.now) + 3

abbrev pub decreases-evaluate_second : goal.decreases-evaluate_second
decreases-evaluate_second g l = weight (node_of l.right.now) + 1

abbrev pub decreases-evaluate_args : goal.decreases-evaluate_args
decreases-evaluate_args g l = weights (nodes_of l.args.now) + 1

abbrev pub invariant-evaluate_args-loop-arg : goal.invariant-evaluate_args-loop-arg
invariant-evaluate_args-loop-arg g l = record {
  fewer : l.turns.left ≤ l.initial.turns.left;
  comes : values_at (actor_view_of g.C.CellView.content l.sight) (nodes_of l.args) l.initial.turns.left
      ≡ prefixed (map value_of l.values.items) (values_at (actor_view_of g.C.CellView.content l.sight) (nodes_of (drop l.arg-index l.args)) l.turns.left);
}
