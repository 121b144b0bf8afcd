use Rattle.std.proofs.Common.{rules, ◌≤◌, ◌+◌, ◌++◌, length, get_or, ap, sym, ◌∙◌, arith}
use Rattle.std.proofs.lemmas.List.{append-nil, drop_all}
use Rattle.std.specs.declared.option.Option.{Option}
use Rattle.std.specs.declared.option.Option.TheVariants.{None}
use Rattle.flow_value.specs.declared.value.Value.{Value}
use Rattle.flow_cancel.specs.Heap.{HeapTree}
use Rattle.flow_steps.specs.declared.process.Process.{Process}
use Rattle.flow_steps.specs.Points.{place_held, place_put, places_taken, places_emptied, referring}
use Rattle.flow_steps.proofs.Framing.{emptied_after, taken_after, one_emptied, one_taken}
use Rattle.flow_steps.proofs.Holding.{if_stuck_weaker, kept_but_heap}
use Rattle.flow_steps.proofs.Before.{place_missing, missing_place_step}
use Rattle.flow_steps.proofs.process.Process.taken.Goals as goal

pub loop-place-preserved : goal.loop-place-preserved
loop-place-preserved c =
    let i = c.args.actor.0 in
    let ns = c.args.places.now in
    let k = c.loop-place.place-index in
    let n = get_or ns k 0 in
    let vs = c.loop-place.values.items in
    let q = c.loop-place.self in
    let r = c.put.new.self in
    let heap = ap (λ (x : Process). x.heap) c.in_ok-old.ensures.changed in
    let kept = c.in_ok-keep_referring.ensures.done ∙ ap (λ (o : Option Value). vs ++ referring o) c.in_ok-old.ensures.held in (
      kept_but_heap c.args.self.now q r (place_put i n None) c.loop-place.invariant.0 c.in_ok-old.ensures.changed,
      ap (emptied_after i ns (k + 1)) heap ∙ one_emptied i ns k 0 q.heap c.loop-place-test.true ∙ c.loop-place.invariant.1,
      ap (λ us. taken_after i ns (k + 1) us r.heap) kept
          ∙ ap (λ g. taken_after i ns (k + 1) (vs ++ referring (place_held i n q.heap)) g) heap
          ∙ one_taken i ns k 0 vs q.heap c.loop-place-test.true
          ∙ c.loop-place.invariant.2,
      missing_place_step i ns k 0 q.heap r.heap _ c.loop-place-test.true heap c.loop-place.invariant.3,
    )

pub returns-in_err-old-clause-stuck : goal.returns-in_err-old-clause-stuck
returns-in_err-old-clause-stuck c =
    let h = if_stuck_weaker c.in_err-old.field-0.0 _ _
    (place_missing c.args.actor.0 c.args.places.now c.loop-place.place-index 0 c.loop-place.self.heap _ c.loop-place-test.true c.loop-place.invariant.3)
    c.in_err-old.ensures.stuck in
    search (rules, h)

pub returns-clause-taken : goal.returns-clause-taken
returns-clause-taken c =
    let ns = c.args.places.now in
    let k = c.loop-place.place-index in
    let vs = c.loop-place.values.items in
    let done : length ns ≤ k = omega (arith, c.loop-place-test.false) in
    sym (append-nil vs) ∙ ap (λ l. vs ++ places_taken c.args.actor.0 l c.loop-place.self.heap) (sym (drop_all k ns done)) ∙ c.loop-place.invariant.2

pub returns-clause-emptied : goal.returns-clause-emptied
returns-clause-emptied c =
    let ns = c.args.places.now in
    let k = c.loop-place.place-index in
    let done : length ns ≤ k = omega (arith, c.loop-place-test.false) in
    c.loop-place.invariant.0
    ∙ ap (λ (h : HeapTree). record c.args.self.now { heap = h })
    (ap (λ l. places_emptied c.args.actor.0 l c.loop-place.self.heap) (sym (drop_all k ns done)) ∙ c.loop-place.invariant.1)
