use Rattle.std.proofs.Common.{◌≡◌, ap, sym, ◌∙◌}
use Rattle.flow_eval.specs.Eval.{truth_of}
use Rattle.flow_code.specs.Resolved.Tree.{BinaryNode}
use Rattle.flow_code.specs.Resolved.Evaluation.{value_at}
use Rattle.flow_code.specs.Resolved.View.{node_of, actor_view_of}
use Rattle.flow_code.proofs.Resolved.Known.{binary_node}
use Rattle.flow_code.proofs.expr.evaluate.evaluate_truth.Goals as goal

pub returns-in-Some-clause-gives : goal.returns-in-Some-clause-gives
returns-in-Some-clause-gives g c =
    let node : node_of c.args.expr.now ≡ BinaryNode c.in-Binary.op (node_of c.in-Binary.left.value) (node_of c.in-Binary.right.value) =
    ap node_of c.in-Binary.is ∙ binary_node c.in-Binary.op c.in-Binary.left c.in-Binary.right in
    let left : c.deref.result.now ≡ c.in-Binary.left.value = c.deref.ensures in
    let right : c.deref-in-Binary.result.now ≡ c.in-Binary.right.value = c.deref-in-Binary.ensures in
    ap (λ n. truth_of (value_at (actor_view_of g.C.CellView.content c.args.sight.now) n c.args.turns.now.left))
    (node ∙ ap (λ l. BinaryNode c.in-Binary.op (node_of l) (node_of c.in-Binary.right.value)) (sym left) ∙ ap (λ r. BinaryNode c.in-Binary.op (node_of c.deref.result.now) (node_of r)) (sym right))
    ∙ c.in-Some.ensures c.args.turns.now.left
