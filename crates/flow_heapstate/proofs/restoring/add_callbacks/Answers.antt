use Rattle.std.proofs.Common.{sym, ap, ◌∙◌, arith}
use Rattle.std.proofs.Math.ListN.{drop_of_length-le}
use Rattle.flow_numbered.specs.Numbered.{thing}
use Rattle.flow_heapstate.proofs.Reading.{what_is}
use Rattle.flow_heapstate.proofs.Building.{more, more_step, more_there, more_none, drop_next}
use Rattle.flow_heapstate.specs.Restoring.{callbacks_more}
use Rattle.flow_heapstate.proofs.Growing.{callbacks_both, callbacks_none}
use Rattle.flow_heapstate.proofs.restoring.add_callbacks.Goals as goal

pub loop-held-preserved : goal.loop-held-preserved
loop-held-preserved c =
    let s = c.loop-held.frames in
    let n = c.args.actor.0 in
    let i = c.loop-held.held-index in
    let all = c.args.callbacks.now in
    let there = what_is (thing s.things n) c.loop-held.invariant.0 in
    let is = c.in_ok-add_callback.ensures.ok there.0 there.1 in
    (more_there callbacks_more s _ n there.0 _ there.1 is, more_step callbacks_more callbacks_both s _ n there.0 _ all i there.1 is (drop_next all i _ c.loop-held-test.true) ∙ c.loop-held.invariant.1)

pub returns : goal.returns
returns c = λ x e.
    let s = c.loop-held.frames in
    let n = c.args.actor.0 in
    let all = c.args.callbacks.now in
    let none = drop_of_length-le all {i = c.loop-held.held-index} (omega (arith, c.loop-held-test.false)) in
    sym (more_none callbacks_more callbacks_none s n) ∙ ap (λ xs. more callbacks_more n xs (thing s.things n) s) (sym none) ∙ c.loop-held.invariant.1
    ∙ ap (λ o. more callbacks_more n all o c.args.frames.now) e
