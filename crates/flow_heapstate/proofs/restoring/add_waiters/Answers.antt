use Rattle.std.proofs.Common.{sym, ap, ◌∙◌, arith}
use Rattle.std.proofs.Math.ListN.{drop_of_length-le}
use Rattle.flow_numbered.specs.Numbered.{thing}
use Rattle.flow_heapstate.proofs.Reading.{what_is}
use Rattle.flow_heapstate.proofs.Building.{more, more_step, more_there, more_none, drop_next}
use Rattle.flow_heapstate.specs.Restoring.{waiters_more}
use Rattle.flow_heapstate.proofs.Growing.{waiters_both, waiters_none}
use Rattle.flow_heapstate.proofs.restoring.add_waiters.Goals as goal

pub loop-waiter-preserved : goal.loop-waiter-preserved
loop-waiter-preserved c =
    let s = c.loop-waiter.cells in
    let n = c.args.cell.0 in
    let i = c.loop-waiter.waiter-index in
    let all = c.args.waiters.now in
    let there = what_is (thing s.things n) c.loop-waiter.invariant.0 in
    let is = c.in_ok-add_waiter.ensures.ok there.0 there.1 in
    (more_there waiters_more s _ n there.0 _ there.1 is, more_step waiters_more waiters_both s _ n there.0 _ all i there.1 is (drop_next all i _ c.loop-waiter-test.true) ∙ c.loop-waiter.invariant.1)

pub returns : goal.returns
returns c = λ x e.
    let s = c.loop-waiter.cells in
    let n = c.args.cell.0 in
    let all = c.args.waiters.now in
    let none = drop_of_length-le all {i = c.loop-waiter.waiter-index} (omega (arith, c.loop-waiter-test.false)) in
    sym (more_none waiters_more waiters_none s n) ∙ ap (λ xs. more waiters_more n xs (thing s.things n) s) (sym none) ∙ c.loop-waiter.invariant.1
    ∙ ap (λ o. more waiters_more n all o c.args.cells.now) e
