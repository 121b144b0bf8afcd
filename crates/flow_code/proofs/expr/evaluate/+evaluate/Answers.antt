use Rattle.std.proofs.Common.{◌≡◌, rules, w64, subst}
use Rattle.std.proofs.lemmas.Int.{to_z-of_z}
use mir.Val.{to_z, of_z}
use Rattle.flow_value.specs.View.{value_of}
use Rattle.flow_eval.specs.Operators.{on_ints}
use Rattle.flow_eval.specs.Records.{field_answer}
use Rattle.flow_eval.specs.Eval.{then, at_once, method_called}
use Rattle.flow_eval.specs.View.{Gives, GivesAnswer}
use Rattle.flow_eval.proofs.Results.{answer_gives}
use Rattle.flow_tree.specs.Tree.{ByIndex}
use Rattle.flow_ast.specs.TypingNames.{selected}
use Rattle.flow_code.specs.Resolved.Tree.{NoNodes, MoreNodes}
use Rattle.flow_code.specs.Resolved.Evaluation.{field_by, value_at, values_at}
use Rattle.flow_code.specs.Resolved.View.{node_of, nodes_of, places_in, actor_view_of}
use Rattle.flow_code.proofs.Resolved.Known.{ints_give, known_gives}
use Rattle.flow_code.proofs.Resolved.Resolves.{index_parts}
use Rattle.flow_code.proofs.expr.evaluate.+evaluate.Goals as goal

pub evaluate_binary-returns-in-Some-int_in-clause-gives : goal.evaluate_binary-returns-in-Some-int_in-clause-gives
evaluate_binary-returns-in-Some-int_in-clause-gives g t c =
    let a : to_z w64 (of_z w64 c.in-Some.a) ≡ c.in-Some.a = search (rules, to_z-of_z) in
    let b : to_z w64 (of_z w64 c.in-Some-int_in.b) ≡ c.in-Some-int_in.b = search (rules, to_z-of_z) in
    ints_give (actor_view_of g.C.CellView.content c.args.sight.now) c.args.op (node_of c.args.left.now) (node_of c.args.right.now) c.in-Some.a c.in-Some-int_in.b c.on_ints.result c.args.turns.now.left
    c.in-Some.ensures c.in-Some-int_in.ensures
    (subst (λ y. GivesAnswer (on_ints c.args.op c.in-Some.a y) c.on_ints.result) b
    (subst (λ x. GivesAnswer (on_ints c.args.op x (to_z w64 (of_z w64 c.in-Some-int_in.b))) c.on_ints.result) a c.on_ints.ensures))

pub evaluate_field-returns-in-Some-clause-gives : goal.evaluate_field-returns-in-Some-clause-gives
evaluate_field-returns-in-Some-clause-gives g t c =
    known_gives (actor_view_of g.C.CellView.content c.args.sight.now) (node_of c.args.of.now) (value_of c.in-Some.base.now)
    (λ v l. at_once (field_answer (field_by (places_in c.args.sight.now.fields.now) v c.args.name)) l) c.field_value.result c.args.turns.now.left c.args.turns.now.left c.in-Some.ensures
    (answer_gives (field_answer (field_by (places_in c.args.sight.now.fields.now) (value_of c.in-Some.base.now) c.args.name)) c.args.turns.now.left c.field_value.result c.field_value.ensures)

pub evaluate_call-returns-in-Some-clause-gives : goal.evaluate_call-returns-in-Some-clause-gives
evaluate_call-returns-in-Some-clause-gives g t c =
    known_gives (actor_view_of g.C.CellView.content c.args.sight.now) (node_of c.args.of.now) (value_of c.in-Some.base.now)
    (λ v l. then (values_at (actor_view_of g.C.CellView.content c.args.sight.now) (nodes_of c.args.args.now) l)
    (λ vs l. at_once (method_called (g.C.CellView.content c.args.sight.now.setting.view.now) c.args.method v vs) l))
    c.evaluate_method.result c.args.turns.now.left c.evaluate_method.new.turns.left c.in-Some.ensures c.evaluate_method.ensures.gives

pub evaluate_index-returns-in-Some-clause-gives : goal.evaluate_index-returns-in-Some-clause-gives
evaluate_index-returns-in-Some-clause-gives g t c =
    known_gives (actor_view_of g.C.CellView.content c.args.sight.now) (node_of c.args.of.now) (value_of c.in-Some.base.now)
    (λ v l. then (values_at (actor_view_of g.C.CellView.content c.args.sight.now) (MoreNodes (node_of c.args.index.now) NoNodes) l)
    (λ vs l. at_once (method_called (g.C.CellView.content c.args.sight.now.setting.view.now) (selected ByIndex) v vs) l))
    c.evaluate_element.result c.args.turns.now.left c.evaluate_element.new.turns.left c.in-Some.ensures c.evaluate_element.ensures.gives

pub evaluate_resolved-returns-in-Index-clause-gives : goal.evaluate_resolved-returns-in-Index-clause-gives
evaluate_resolved-returns-in-Index-clause-gives g t c =
    subst (λ n. Gives (value_at (actor_view_of g.C.CellView.content c.args.sight.now) n c.args.turns.now.left) c.evaluate_index.result c.evaluate_index.new.turns.left)
    (index_parts c.args.expr.now c.deref-in-Index.result.now c.deref-in-Index-2.result.now c.in-Index.of c.in-Index.index c.in-Index.is c.deref-in-Index.ensures c.deref-in-Index-2.ensures)
    c.evaluate_index.ensures.gives
