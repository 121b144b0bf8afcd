use Rattle.std.proofs.Common.{◌≡◌, length, sym, ap, ◌∙◌, subst, arith, ◌<◌}
use Rattle.std.specs.Prelude.{slice_get}
use Rattle.flow_numbered.specs.Numbered.{thing}
use Rattle.flow_value.specs.View.{value_of}
use Rattle.flow_heapstate.proofs.Reading.{IsReadOf, read_next, read_all, fewer_left, what_is, left_of}
use Rattle.flow_heapstate.proofs.parts.elements.Goals as goal

pub loop-value-smaller : goal.loop-value-smaller
loop-value-smaller c =
    let (x, is) = what_is (thing c.args.streams.now.things c.args.cell.0) c.requires in
    let items = c.loop-value.elements.items in
    let here : c.len.result ≡ length items = grind (arith, c.len.ensures, c.loop-value.elements.ok) in
    subst (λ ys. left_of (λ t. t.queue) (thing c.args.streams.now.things c.args.cell.0) (length ys) < left_of (λ t. t.queue) (thing c.args.streams.now.things c.args.cell.0) (length items))
    (sym c.in_ok-push.ensures.items)
    (fewer_left (λ t. t.queue) (thing c.args.streams.now.things c.args.cell.0) items c.in_ok-copy.field-0 x is c.in-Some.value.now (c.in-Some.ensures x is ∙ ap (slice_get x.queue) here))

pub loop-value-preserved : goal.loop-value-preserved
loop-value-preserved c = λ x is.
    let items = c.loop-value.elements.items in
    let here : c.len.result ≡ length items = grind (arith, c.len.ensures, c.loop-value.elements.ok) in
    subst (IsReadOf value_of value_of x.queue) (sym c.in_ok-push.ensures.items)
    (read_next value_of value_of x.queue items c.in-Some.value.now c.in_ok-copy.field-0 (c.loop-value.invariant x is) (c.in-Some.ensures x is ∙ ap (slice_get x.queue) here) c.in_ok-copy.ensures)

pub returns : goal.returns
returns c = λ x is.
    let items = c.loop-value.elements.items in
    let here : c.len.result ≡ length items = grind (arith, c.len.ensures, c.loop-value.elements.ok) in
    read_all value_of value_of x.queue items (c.loop-value.invariant x is) (c.in_default.ensures x is ∙ ap (slice_get x.queue) here)
