-- What the loss of a reference to a stream does to a heap and to the process that it shows.
use Rattle.std.proofs.Common.{◌≡◌, ℕ, zero, suc, ◌+◌, ◌<◌, nat_eq, nat_lt, Bool, true, false, List, [], map, if◌then◌else◌, refl, sym, ap, ◌∙◌, subst, arith}
use Rattle.std.specs.Prelude.{is_some as set_in, is_none, ◌&&◌, ◌||◌, not}
use Rattle.std.proofs.lemmas.Bool.Decides.{nat_tests}
use Rattle.std.specs.Option.{option_map}
use Rattle.std.specs.declared.option.Option.{Option}
use Rattle.std.specs.declared.option.Option.TheVariants.{None, Some}
use Rattle.flow_base.specs.declared.ids.ErrorCode.{ErrorCode}
use Rattle.flow_value.specs.declared.value.Kind.{Kind}
use Rattle.flow_value.specs.declared.value.Value.{Value}
use Rattle.flow_value.specs.Values.{ValueTree}
use Rattle.flow_value.specs.View.{value_of}
use Rattle.flow_class.specs.Classes.{RawTree}
use Rattle.flow_numbered.specs.Numbered as stored
use Rattle.flow_cell.specs.Cells.{Counts, no_counts, count_of, released}
use Rattle.flow_cell.specs.Cells as counts
use Rattle.flow_stream.specs.Streams.{StreamTree}
use Rattle.flow_cancel.specs.Heap.{HeapTree, without, has_number}
use Rattle.flow_cancel.specs.Dropping as lost
use Rattle.flow_cancel.specs.Dropping.{dropping, broken_if_not, stream_less, stream_lost, without_port, drop_stream, loss_of, stream_may_lose, may_drop_stream}
use Rattle.flow_numbered.specs.Numbered.{thing, removed}
use Rattle.flow_meaning.specs.Cells.{Side, PromiseSide, FutureSide, side_of, Waiter, Cell, Stream, as_list, is_complete, is_some}
use Rattle.flow_meaning.specs.Process.{Entry, Proc}
use Rattle.flow_meaning.specs.References.{refs_in, one, count, count_waiters}
use Rattle.flow_meaning.specs.Work.{dropping_values, free, free_cell, owner}
use Rattle.flow_meaning.specs.Dropping.{promises_gone, futures_gone, loss, port_of}
use Rattle.flow_meaning.specs.Step.{on_core}
use Rattle.flow_meaning.specs.Frame.{Frame}
use Rattle.flow_meaning.proofs.Posture.{each_number}
use Rattle.flow_heap_refinement.specs.Representing.{spot_of_actor, waiter_in, error_number}
use Rattle.flow_heap_refinement.specs.Counted.{memory_side, count_at, kept_count, references}
use Rattle.flow_heap_refinement.specs.Changes.{stream_put, without_cell}
use Rattle.flow_heap_refinement.specs.Rested.{IsUnset}
use Rattle.flow_heap_refinement.specs.Losing.{Losing, Same, LossMatches, free_port}
use Rattle.flow_heap_refinement.proofs.Finds.{stored_gone, stored_removed}
use Rattle.flow_heap_refinement.proofs.Cells.{stream_at, AsStream}
use Rattle.flow_heap_refinement.proofs.Shown.{stream_counted, stream_is_gone, values_shown}
use Rattle.flow_heap_refinement.proofs.Beside.{port_gone, one_each}
use Rattle.flow_heap_refinement.proofs.Referring.{of_values, of_gone, of_port_gone}
use Rattle.flow_heap_refinement.proofs.Keeping.{stream_released, no_one}
use Rattle.flow_heap_refinement.proofs.Owners.{entry_found}
use Rattle.flow_heap_refinement.proofs.Losing.{unwaited, one_is, left_counts, side_counts}

module _ (r : RawTree) (h : HeapTree) (p : Proc Frame) (kd : Kind) (k : ℕ) (q : List ValueTree) (x : Option ℕ) (w : Option Waiter) (l : Losing r h p kd k (Stream q x w)) (m : StreamTree Value)
    (at : stored.thing h.streams.things k ≡ Some m) where
  abbrev sd : Side
  sd = side_of kd

  abbrev P : ℕ
  P = references PromiseSide k p

  abbrev F : ℕ
  F = references FutureSide k p

  abbrev cell : Cell
  cell = Stream q x w

  pub stream : AsStream (spot_of_actor p.actors) m (stored.thing h.cells.things k) (thing p.core.cells k)
  stream = stream_at (spot_of_actor p.actors) h.cells.things h.streams.things p.core.cells l.shows.cells k m at

  same_cell : (Stream (map value_of m.queue) (option_map error_number m.end) stream.waiter) ≡ Stream q x w
  same_cell = let a = stream.cell in let b = l.cell in cc (a, b)

  same_queue : map value_of m.queue ≡ q
  same_queue = let a = same_cell in cc (a)

  same_end : option_map error_number m.end ≡ x
  same_end = let a = same_cell in cc (a)

  same_waiter : m.waiter ≡ option_map (waiter_in (spot_of_actor p.actors)) w
  same_waiter = stream.waiting ∙ ap (option_map (waiter_in (spot_of_actor p.actors))) (let a = same_cell in cc (a))

  pub kept_is : (s : Side) → count_of (memory_side s) m.references ≡ references s k p + one s k sd k
  kept_is s = sym (ap (λ y. count_at s y (stored.thing h.streams.things k)) stream.no_single ∙ ap (count_at s None) at) ∙ l.counted s k

  pub less_is : released (memory_side sd) m.references ≡ record { promises = P; futures = F }
  less_is = left_counts sd k P F m.references (kept_is PromiseSide) (kept_is FutureSide)

  counts_there : 0 < count_of (memory_side sd) m.references
  counts_there = side_counts sd k P F m.references (kept_is PromiseSide) (kept_is FutureSide)

  -- a stream that stays
  abbrev kept_heap : HeapTree
  kept_heap = stream_put k (record m { references = released (memory_side sd) m.references }) h

  stays : Same r kept_heap p
  stays = (
    stream_counted r h p k m (released (memory_side sd) m.references) l.shows at,
    λ s j. let a = stream_released h s j k m sd stream.no_single at counts_there in let b = l.counted s j in omega (arith, a, b),
  )

  -- one that goes
  no_waiter : F ≡ 0 → as_list w ≡ []
  no_waiter e = unwaited k (as_list w) (let a = of_gone p FutureSide k k cell l.cell in omega (arith, a, e))

  abbrev gone_heap : HeapTree → HeapTree
  gone_heap d = dropping m.queue (record d { streams = without d.streams k })

  abbrev gone_proc : Proc Frame → Proc Frame
  gone_proc u = on_core (dropping_values (map value_of m.queue)) (on_core (without_cell k) u)

  gone_is : (u : Proc Frame) → thing u.core.cells k ≡ Some cell → gone_proc u ≡ on_core (free k) u
  gone_is u e =
      ap (λ vs. on_core (dropping_values vs) (on_core (without_cell k) u)) same_queue
      ∙ sym (ap (λ y. on_core (free_cell k y) u) e)

  -- its waiters and what stood in it
  same_references : (u : Proc Frame) → thing u.core.cells k ≡ Some cell → F ≡ 0 → (s : Side) (j : ℕ) → references s j (gone_proc u) ≡ references s j u
  same_references u e fz s j =
      let a = of_values (on_core (without_cell k) u) s j (map value_of m.queue) in
      let b = of_gone u s j k cell e in
      let c = ap (λ vs. count s j (refs_in vs)) same_queue in
      let d = ap (count_waiters s j k) (no_waiter fz) in omega (arith, a, b, c, d)

  kept_here : (s : Side) → count_at s (stored.thing h.cells.things k) (stored.thing (stored.removed h.streams.things k) k) ≡ 0
  kept_here s = ap (λ y. count_at s y (stored.thing (stored.removed h.streams.things k) k)) stream.no_single ∙ ap (count_at s None) (stored_gone h.streams.things h.streams.greatest k l.sorted.streams)

  kept_there : (s : Side) (j : ℕ) → (k ≡ j → ⊥) → count_at s (stored.thing h.cells.things j) (stored.thing (stored.removed h.streams.things k) j) ≡ references s j p
  kept_there s j n =
      ap (count_at s (stored.thing h.cells.things j)) (stored_removed h.streams.things k j n)
      ∙ (let a = l.counted s j in let b = no_one s k j sd n in omega (arith, a, b))

  goes : P ≡ 0 → F ≡ 0 → Same r (gone_heap h) (on_core (free k) p)
  goes pz fz = subst (Same r (gone_heap h)) (gone_is p l.cell) (
    values_shown r (record h { streams = without h.streams k }) (on_core (without_cell k) p) m.queue (stream_is_gone r h p k m l.shows at l.sorted.streams l.numbers.cells),
    λ s j. let a = by_number s j in let b = same_references p l.cell fz s j in omega (arith, a, b),
  )
    where
      none_here : (s : Side) → references s k p ≡ 0
      none_here PromiseSide = pz
      none_here FutureSide = fz

      by_number : (s : Side) (j : ℕ) → kept_count s j (gone_heap h) ≡ references s j p
      by_number s j = each_number k (λ j. kept_count s j (gone_heap h) ≡ references s j p) (kept_here s ∙ sym (none_here s)) (λ j n. kept_there s j n) j

  -- the promise side broke, if it has no end
  breaks : LossMatches r p k (kept_heap, broken_if_not (set_in m.end)) (promises_gone (is_complete cell))
  breaks = subst (λ y. LossMatches r p k (kept_heap, broken_if_not (set_in m.end)) (promises_gone (is_complete (Stream q y w)))) same_end (by_end m.end)
    where
      by_end : (c : Option ErrorCode) → LossMatches r p k (kept_heap, broken_if_not (set_in c)) (promises_gone (is_complete (Stream q (option_map error_number c) w)))
      by_end None = stays
      by_end (Some e) = stays

  -- no future is left: a port's stream goes, with its port
  no_owner : (y : Option (ℕ × Entry)) → owner k p.core.entries ≡ y → y ≡ None
  no_owner None e = refl
  no_owner (Some y) e =
      let g = entry_found k 0 p.core.started y p.core.entries l.entries e in absurd (subst IsUnset l.cell (l.owned.result y.0 k y.1 g.0 g.1).0)

  module _ (port : ℕ) (mine : port_of k p.core.ports ≡ Some port) (fz : F ≡ 0) where
    abbrev unported : Proc Frame
    unported = on_core (λ c. record c { ports = removed c.ports port }) p

    one_promise : P ≡ 1
    one_promise = (l.owned.port port k mine).1

    unheard : Same r (gone_heap (without_port k h)) (on_core (free_port k port) p)
    unheard = subst (Same r (gone_heap (without_port k h))) (gone_is unported l.cell) (
      values_shown r (record (without_port k h) { streams = without h.streams k }) (on_core (without_cell k) unported) m.queue
          (stream_is_gone r (without_port k h) unported k m (port_gone r h p port k l.shows mine (one_each p.core.ports 0 p.core.made l.numbers.ports) (l.sorted.ports k)) at l.sorted.streams
          l.numbers.cells),
      λ s j. let a = by_number s j in let b = same_references unported l.cell fz s j in omega (arith, a, b),
    )
      where
        less : (s : Side) (j : ℕ) → references s j p ≡ one s j PromiseSide k + references s j unported
        less s j = of_port_gone p s j port k (one_each p.core.ports 0 p.core.made l.numbers.ports port k mine).0

        none_here : (s : Side) → references s k unported ≡ 0
        none_here PromiseSide =
            let a = less PromiseSide k in
            let b = one_promise in
            let c = one_here in omega (arith, a, b, c)
          where
            one_here : one PromiseSide k PromiseSide k ≡ 1
            one_here = one_is PromiseSide k
        none_here FutureSide = let a = less FutureSide k in omega (arith, a, fz)

        by_number : (s : Side) (j : ℕ) → kept_count s j (gone_heap (without_port k h)) ≡ references s j unported
        by_number s j =
            each_number k (λ j. kept_count s j (gone_heap (without_port k h)) ≡ references s j unported) (kept_here s ∙ sym (none_here s))
            (λ j n. let a = kept_there s j n in let b = less s j in let c = no_one s k j PromiseSide n in omega (arith, a, b, c)) j

  orphan : F ≡ 0 → LossMatches r p k (lost.unheard k (stream_less (memory_side sd) m) h (has_number h.ports k)) (futures_gone (owner k p.core.entries) (port_of k p.core.ports))
  orphan fz =
      subst (λ y. LossMatches r p k (lost.unheard k (stream_less (memory_side sd) m) h (has_number h.ports k)) (futures_gone y (port_of k p.core.ports))) (sym (no_owner (owner k p.core.entries) refl))
      (subst (λ b. LossMatches r p k (lost.unheard k (stream_less (memory_side sd) m) h b) (futures_gone None (port_of k p.core.ports))) (sym (l.shows.ports k))
      (by_port (port_of k p.core.ports) refl))
    where
      by_port : (y : Option ℕ) → port_of k p.core.ports ≡ y → LossMatches r p k (lost.unheard k (stream_less (memory_side sd) m) h (is_some y)) (futures_gone None y)
      by_port None e = stays
      by_port (Some port) e = unheard port e fz

  -- each case
  by_counts : (side : Side) → sd ≡ side → (a b : ℕ) → P ≡ a → F ≡ b
      → LossMatches r p k (stream_lost k (stream_less (memory_side sd) m) h (counts.loss (memory_side side) (record { promises = a; futures = b })))
      (loss side a b cell (owner k p.core.entries) (port_of k p.core.ports))
  by_counts PromiseSide e zero zero pz fz = goes pz fz
  by_counts FutureSide e zero zero pz fz = goes pz fz
  by_counts PromiseSide e zero (suc b) pz fz = breaks
  by_counts FutureSide e zero (suc b) pz fz = stays
  by_counts PromiseSide e (suc a) zero pz fz = stays
  by_counts FutureSide e (suc a) zero pz fz = orphan fz
  by_counts PromiseSide e (suc a) (suc b) pz fz = stays
  by_counts FutureSide e (suc a) (suc b) pz fz = stays

  pub stream_follows : LossMatches r p k (drop_stream (memory_side sd) k h (stored.thing h.streams.things k)) (loss sd P F cell (owner k p.core.entries) (port_of k p.core.ports))
  stream_follows =
      subst (λ y. LossMatches r p k (drop_stream (memory_side sd) k h y) (loss sd P F cell (owner k p.core.entries) (port_of k p.core.ports))) (sym at)
      (subst (λ c. LossMatches r p k (stream_lost k (stream_less (memory_side sd) m) h (counts.loss (memory_side sd) c)) (loss sd P F cell (owner k p.core.entries) (port_of k p.core.ports)))
      (sym less_is)
      (by_counts sd refl P F refl refl))

  -- and it may be dropped
  pub stream_may : may_drop_stream (memory_side sd) (has_number h.ports k) (stored.thing h.streams.things k) ≡ true
  stream_may =
      ap (may_drop_stream (memory_side sd) (has_number h.ports k)) at
      ∙ ap (stream_may_lose (is_none m.waiter) (has_number h.ports k) (nat_eq m.references.promises 1)) (loss_is (grind (arith, nat_tests, counts_there)))
      ∙ ap (λ c. stream_may_lose (is_none m.waiter) (has_number h.ports k) (nat_eq m.references.promises 1) (Some (counts.loss (memory_side sd) c))) less_is
      ∙ by_case sd refl P F refl refl
    where
      loss_is : nat_lt 0 (count_of (memory_side sd) m.references) ≡ true → loss_of (memory_side sd) m.references ≡ Some (counts.loss (memory_side sd) (released (memory_side sd) m.references))
      loss_is e = ap (λ t. if t then Some (counts.loss (memory_side sd) (released (memory_side sd) m.references)) else None) e

      nobody_there : (y : Option Waiter) → as_list y ≡ [] → is_none (option_map (waiter_in (spot_of_actor p.actors)) y) ≡ true
      nobody_there None e = refl
      nobody_there (Some y) e = absurd (cc)

      alone : F ≡ 0 → is_none m.waiter ≡ true
      alone e = ap is_none same_waiter ∙ nobody_there w (no_waiter e)

      -- of a port's stream the port is the one promise
      ported : sd ≡ FutureSide → F ≡ 0 → (not (has_number h.ports k) || (nat_eq m.references.promises 1 && is_none m.waiter)) ≡ true
      ported e fz = subst (λ b. (not b || (nat_eq m.references.promises 1 && is_none m.waiter)) ≡ true) (sym (l.shows.ports k)) (by_port (port_of k p.core.ports) refl)
        where
          promises_are : P ≡ 1 → m.references.promises ≡ 1
          promises_are f = let a = kept_is PromiseSide in let b = ap (λ (z : Side). one PromiseSide k z k) e in let c : one PromiseSide k FutureSide k ≡ 0 = refl in omega (arith, a, b, c, f)

          both_true : (b c : Bool) → b ≡ true → c ≡ true → (b && c) ≡ true
          both_true true c e f = f
          both_true false c e f = absurd (cc)

          by_port : (y : Option ℕ) → port_of k p.core.ports ≡ y → (not (is_some y) || (nat_eq m.references.promises 1 && is_none m.waiter)) ≡ true
          by_port None f = refl
          by_port (Some port) f = both_true (nat_eq m.references.promises 1) (is_none m.waiter) (ap (λ z. nat_eq z 1) (promises_are (l.owned.port port k f).1)) (alone fz)

      by_case : (side : Side) → sd ≡ side → (a b : ℕ) → P ≡ a → F ≡ b
          → stream_may_lose (is_none m.waiter) (has_number h.ports k) (nat_eq m.references.promises 1) (Some (counts.loss (memory_side side) (record { promises = a; futures = b }))) ≡ true
      by_case PromiseSide s zero zero e f = alone f
      by_case FutureSide s zero zero e f = alone f
      by_case PromiseSide s zero (suc b) e f = refl
      by_case FutureSide s zero (suc b) e f = refl
      by_case PromiseSide s (suc a) zero e f = refl
      by_case FutureSide s (suc a) zero e f = ported s f
      by_case PromiseSide s (suc a) (suc b) e f = refl
      by_case FutureSide s (suc a) (suc b) e f = refl
