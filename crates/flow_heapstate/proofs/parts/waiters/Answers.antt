use Rattle.std.proofs.Common.{◌≡◌, length, sym, ap, ◌∙◌, subst, arith, ◌<◌, refl}
use Rattle.std.specs.Prelude.{slice_get}
use Rattle.std.proofs.lemmas.List.{map-id}
use Rattle.flow_numbered.specs.Numbered.{thing}
use Rattle.flow_heapstate.proofs.Reading.{IsReadOf, read_next, read_all, fewer_left, what_is, left_of}
use Rattle.flow_heapstate.proofs.parts.waiters.Goals as goal

pub loop-waiter-smaller : goal.loop-waiter-smaller
loop-waiter-smaller c =
    let (x, is) = what_is (thing c.args.cells.now.things c.args.cell.0) c.requires in
    let items = c.loop-waiter.waiters.items in
    let here : c.len.result ≡ length items = grind (arith, c.len.ensures, c.loop-waiter.waiters.ok) in
    subst (λ ys. left_of (λ t. t.waiters) (thing c.args.cells.now.things c.args.cell.0) (length ys) < left_of (λ t. t.waiters) (thing c.args.cells.now.things c.args.cell.0) (length items))
    (sym c.in_ok-push.ensures.items)
    (fewer_left (λ t. t.waiters) (thing c.args.cells.now.things c.args.cell.0) items c.in-Some.waiter x is c.in-Some.waiter (c.in-Some.ensures x is ∙ ap (slice_get x.waiters) here))

pub loop-waiter-preserved : goal.loop-waiter-preserved
loop-waiter-preserved c = λ x is.
    let items = c.loop-waiter.waiters.items in
    let here : c.len.result ≡ length items = grind (arith, c.len.ensures, c.loop-waiter.waiters.ok) in
    subst (IsReadOf (λ w. w) (λ w. w) x.waiters) (sym c.in_ok-push.ensures.items)
    (read_next (λ w. w) (λ w. w) x.waiters items c.in-Some.waiter c.in-Some.waiter (c.loop-waiter.invariant x is) (c.in-Some.ensures x is ∙ ap (slice_get x.waiters) here) refl)

pub returns : goal.returns
returns c = λ x is.
    let items = c.loop-waiter.waiters.items in
    let here : c.len.result ≡ length items = grind (arith, c.len.ensures, c.loop-waiter.waiters.ok) in
    sym (map-id items) ∙ read_all (λ w. w) (λ w. w) x.waiters items (c.loop-waiter.invariant x is) (c.in_default.ensures x is ∙ ap (slice_get x.waiters) here) ∙ map-id x.waiters
