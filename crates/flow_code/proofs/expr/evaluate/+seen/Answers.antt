use Rattle.std.proofs.Common.{◌≡◌, ℕ, pos, nat_abs, rules, w64, IfSome, ap, sym, subst, ◌∙◌}
use Rattle.std.proofs.lemmas.Int.{to_z-of_z}
use Rattle.std.specs.Int.{FitsUnsignedBits}
use mir.Val.{to_z, of_z}
use Rattle.flow_value.specs.Values.{IntValue}
use Rattle.flow_value.specs.View.{value_of, values_of}
use Rattle.flow_eval.specs.Eval.{Done}
use Rattle.flow_eval.proofs.Elements.{from_zero}
use Rattle.flow_code.specs.Resolved.Tree.{FieldNode}
use Rattle.flow_code.specs.Resolved.Evaluation.{value_at}
use Rattle.flow_code.specs.Resolved.View.{node_of, actor_view_of}
use Rattle.flow_code.proofs.Resolved.Known.{field_node, field_seen, element_seen}
use Rattle.flow_code.proofs.Resolved.Resolves.{index_parts}
use Rattle.flow_code.proofs.expr.evaluate.+seen.Goals as goal

pub seen_field-returns : goal.seen_field-returns
seen_field-returns g t c =
    rw c.in-Some.is (field_seen (actor_view_of g.C.CellView.content c.args.sight.now) (node_of c.args.of.now) c.in-Some.name
    (value_of c.in-Some-seen.base.now) c.field.result c.in-Some-seen.ensures c.field.ensures)

pub seen-returns-in-Field : goal.seen-returns-in-Field
seen-returns-in-Field g t c =
    let node : node_of c.args.expr.now ≡ FieldNode (node_of c.in-Field.of.value) c.in-Field.name = ap node_of c.in-Field.is ∙ field_node c.in-Field.of c.in-Field.name in
    let inner : c.deref.result.now ≡ c.in-Field.of.value = c.deref.ensures in
    subst (λ n. IfSome c.seen_field.result (λ v. (left : ℕ) → value_at (actor_view_of g.C.CellView.content c.args.sight.now) n left ≡ Done (value_of v.now) left))
    (ap (λ r. FieldNode (node_of r) c.in-Field.name) inner ∙ sym node) c.seen_field.ensures

pub seen_element-returns-in-Ok : goal.seen_element-returns-in-Ok
seen_element-returns-in-Ok g t c =
    let n = c.in-Some-int_in.index in
    let back : to_z w64 (of_z w64 n) ≡ n = search (rules, to_z-of_z) in
    let is : n ≡ pos c.in-Ok.index = from_zero n c.in-Ok.index (subst (FitsUnsignedBits 64) back c.in-Ok.ensures.0) (c.in-Ok.ensures.1 ∙ ap nat_abs back) in
    element_seen (actor_view_of g.C.CellView.content c.args.sight.now) (node_of c.args.of.now) (node_of c.args.index.now) (values_of c.in-Some-items_of.items.now) c.in-Ok.index c.value_in.result
    (λ left. c.in-Some.ensures left ∙ ap (λ v. Done v left) c.in-Some-items_of.ensures)
    (λ left. c.in-Some-int_in.ensures left ∙ ap (λ z. Done (IntValue z) left) is) c.value_in.ensures

pub seen-returns-in-Index : goal.seen-returns-in-Index
seen-returns-in-Index g t c =
    subst (λ n. IfSome c.seen_element.result (λ v. (left : ℕ) → value_at (actor_view_of g.C.CellView.content c.args.sight.now) n left ≡ Done (value_of v.now) left))
    (index_parts c.args.expr.now c.deref-in-Index.result.now c.deref-in-Index-2.result.now c.in-Index.of c.in-Index.index c.in-Index.is c.deref-in-Index.ensures c.deref-in-Index-2.ensures)
    c.seen_element.ensures
