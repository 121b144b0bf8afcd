use Rattle.std.proofs.Common.{rules, ◌+◌, ◌-◌, ◌≡◌, length, refl, ap, ◌∙◌, arith}
use Rattle.flow_cancel.specs.Heap.{HeapTree}
use Rattle.flow_numbered.specs.Numbered.{thing}
use Rattle.flow_steps.specs.declared.process.Process.{Process}
use Rattle.flow_steps.specs.Points.{place_held, place_lost, places_lost}
use Rattle.flow_steps.proofs.Holding.{kept_but_heap}
use Rattle.flow_steps.proofs.Over.{over_none, over_then}
use Rattle.flow_steps.proofs.Framing.{filled_behind, still_empty, lost_one, lost_end}
use Rattle.flow_steps.proofs.process.Process.empty_from.Goals as goal

pub loop-place-init : goal.loop-place-init
loop-place-init c =
    let h = c.args.self.now.heap in
    let xs = c.places_held-count.result.now in
    let count : c.in-Ok.last ≡ length xs = search rules in (
      over_none _ _ refl,
      refl,
      refl,
      λ k le. filled_behind (thing h.frames.things c.args.actor.0) xs k (rw c.frames-2.ensures at c.places_held-count.ensures) (omega (arith, count, le)),
    )

pub loop-place-preserved : goal.loop-place-preserved
loop-place-preserved c =
    let i = c.args.actor.0 in
    let h = c.loop-place.self.heap in
    let lost = c.in_ok-empty.ensures.lost in
    let heap = ap (λ (x : Process). x.heap) lost in (
      over_then _ _ _ c.loop-place.invariant.0 c.in_ok-empty.ensures.drops,
      kept_but_heap c.args.self.now c.loop-place.self c.empty.new.self (place_lost i c.loop-place.place) c.loop-place.invariant.1 lost,
      ap (λ (g : HeapTree). places_lost i (c.loop-place.place + 1) (c.in-Ok.last - (c.loop-place.place + 1)) g) heap
          ∙ lost_one i c.loop-place.place c.in-Ok.last h c.loop-place-test.true ∙ c.loop-place.invariant.2,
      λ k le. ap (λ (g : HeapTree). place_held i k g) heap ∙ still_empty i c.loop-place.place k h (c.loop-place.invariant.3 k le),
    )

pub returns-clause-lost : goal.returns-clause-lost
returns-clause-lost c =
    let xs = c.places_held-count.result.now in
    let count : c.in-Ok.last ≡ length xs = search rules in
    c.loop-place.invariant.1
    ∙ ap (λ (h : HeapTree). record c.args.self.now { heap = h })
    (lost_end c.args.actor.0 c.args.first c.in-Ok.last c.loop-place.place xs c.args.self.now.heap c.loop-place.self.heap (search rules)
    (rw c.frames-2.ensures at c.places_held-count.ensures) count c.loop-place-test.false c.loop-place.invariant.2 c.loop-place.invariant.3)
