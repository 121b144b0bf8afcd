use Rattle.std.proofs.Common.{◌≡◌, ◌-◌, Some, map, slice_get, sym, ap, ◌∙◌, arith}
use Rattle.slab.specs.Slab.{get}
use Rattle.flow_numbered.specs.Links.{walk}
use Rattle.flow_cell.specs.Waiting.{waiter_of}
use Rattle.flow_cell.proofs.Places.{none_past, passed}
use Rattle.flow_cell.proofs.queue.waiter_from.Goals as goal

pub returns-then-place-most : goal.returns-then-place-most
returns-then-place-most c = sym (none_past (get c.args.links.now) c.args.most c.args.from c.args.place c.if-place-most.true)

pub loop-preserved : goal.loop-preserved
loop-preserved c =
    let at = get c.args.links.now in
    let key : c.loop.key ≡ Some c.in_ok-key.field-0 = grind arith in
    let here : at c.in_ok-key.field-0 ≡ Some c.in_ok-key-2.field-0.now = grind arith in
    passed at c.args.most c.args.place c.loop.counter c.in_ok-key.field-0 c.in_ok-key-2.field-0.now (omega (arith, c.if-place-most.false)) c.loop-test.true here
    ∙ ap (λ o. slice_get (map waiter_of (walk at (c.args.most - c.loop.counter) o)) (c.args.place - c.loop.counter)) (sym key) ∙ c.loop.invariant
