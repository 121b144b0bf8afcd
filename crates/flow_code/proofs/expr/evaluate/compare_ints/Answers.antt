use Rattle.std.proofs.Common.{◌≡◌, rules, w64, ap, ◌∙◌, int_cmp}
use Rattle.std.proofs.lemmas.Int.{to_z-of_z}
use mir.Val.{to_z, of_z}
use Rattle.flow_eval.specs.Operators.{compared}
use Rattle.flow_code.specs.Resolved.View.{node_of, actor_view_of}
use Rattle.flow_code.proofs.Resolved.Known.{ints_compare}
use Rattle.flow_code.proofs.expr.evaluate.compare_ints.Goals as goal

pub returns : goal.returns
returns g c =
    let a : to_z w64 (of_z w64 c.in-Some.a) ≡ c.in-Some.a = search (rules, to_z-of_z) in
    let b : to_z w64 (of_z w64 c.in-Some-int_in.b) ≡ c.in-Some-int_in.b = search (rules, to_z-of_z) in
    ints_compare (actor_view_of g.C.CellView.content c.args.sight.now) c.args.op (node_of c.args.left.now) (node_of c.args.right.now) c.in-Some.a c.in-Some-int_in.b c.compared.result
    c.in-Some.ensures c.in-Some-int_in.ensures
    (c.compared.ensures ∙ ap (compared c.args.op) c.cmp.ensures ∙ ap (λ x. compared c.args.op (int_cmp x (to_z w64 (of_z w64 c.in-Some-int_in.b)))) a
    ∙ ap (λ y. compared c.args.op (int_cmp c.in-Some.a y)) b)
