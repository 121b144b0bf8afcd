-- What the loss of a reference to a single result does to a heap and to the process that it shows.
use Rattle.std.proofs.Common.{◌≡◌, ℕ, zero, suc, ◌+◌, ◌<◌, ◌≤◌, nat_lt, Bool, true, false, List, [], ◌∷◌, map, if◌then◌else◌, refl, sym, ap, ◌∙◌, subst, arith}
use Rattle.std.specs.Prelude.{is_some as set_in, is_none, slice_get}
use Rattle.std.proofs.lemmas.Bool.Decides.{nat_tests}
use Rattle.std.specs.Option.{option_map}
use Rattle.std.specs.declared.option.Option.{Option}
use Rattle.std.specs.declared.option.Option.TheVariants.{None, Some}
use Rattle.flow_value.specs.declared.value.Kind.{Kind}
use Rattle.flow_value.specs.declared.value.Outcome.{Outcome}
use Rattle.flow_value.specs.declared.value.Outcome.TheVariants as outcome
use Rattle.flow_value.specs.Values.{OutcomeTree}
use Rattle.flow_value.specs.View.{value_of, outcome_of}
use Rattle.flow_class.specs.Classes.{RawTree}
use Rattle.flow_numbered.specs.Numbered as stored
use Rattle.flow_cell.specs.declared.counts.Side.TheVariants.{Promise, Future}
use Rattle.flow_cell.specs.Cells.{CellTree, Counts, no_counts, count_of, released}
use Rattle.flow_cell.specs.Cells as counts
use Rattle.flow_cancel.specs.declared.actors.Note.{Note}
use Rattle.flow_cancel.specs.declared.task.Dropped.TheVariants as memory
use Rattle.flow_cancel.specs.Heap.{HeapTree, actor_id, without}
use Rattle.flow_cancel.specs.Heap as heap
use Rattle.flow_cancel.specs.Dropping.{dropping, content, broken_if_not, cancel_if_not, cancel_owner, cell_less, cell_lost, drop_cell, loss_of, cell_may_lose, may_drop_cell}
use Rattle.flow_numbered.specs.Numbered.{thing}
use Rattle.flow_meaning.specs.Cells.{Side, PromiseSide, FutureSide, side_of, Waiter, Single, good, held, is_complete}
use Rattle.flow_meaning.specs.Process.{Entry, Proc}
use Rattle.flow_meaning.specs.References.{refs_in, one, count, count_waiters, in_entries}
use Rattle.flow_meaning.specs.Work.{dropping_values, free, free_cell, owner}
use Rattle.flow_meaning.specs.Dropping.{promises_gone, futures_gone, loss, port_of}
use Rattle.flow_meaning.specs.Step.{on_core}
use Rattle.flow_meaning.specs.Frame.{Frame}
use Rattle.flow_meaning.proofs.Posture.{same_number, each_number}
use Rattle.flow_heap_refinement.specs.Representing.{Somebody, spot_of_actor, waiter_in, cell_number}
use Rattle.flow_heap_refinement.specs.Counted.{memory_side, count_at, kept_count, references}
use Rattle.flow_heap_refinement.specs.Changes.{cell_put, without_cell}
use Rattle.flow_heap_refinement.specs.Rested.{IsStream}
use Rattle.flow_heap_refinement.specs.Losing.{Losing, Same, LossMatches}
use Rattle.flow_heap_refinement.proofs.Finds.{stored_gone, stored_removed}
use Rattle.flow_heap_refinement.proofs.Cells.{single_at, AsSingle}
use Rattle.flow_heap_refinement.proofs.Actors.{by_note, by_entry}
use Rattle.flow_heap_refinement.proofs.Shown.{cell_counted, cell_gone, values_shown}
use Rattle.flow_heap_refinement.proofs.Referring.{of_values, of_gone}
use Rattle.flow_heap_refinement.proofs.Keeping.{cell_released, no_one}
use Rattle.flow_heap_refinement.proofs.Owners.{noted_result, result_noted, note_found, note_unfound, entry_found, entry_unfound, one_owner}

-- a cell that no future refers to has no waiter
pub unwaited : (k : ℕ) (ws : List Waiter) → count_waiters FutureSide k k ws ≡ 0 → ws ≡ []
unwaited k [] e = refl
unwaited k (w ∷ ws) e = let b : one FutureSide k FutureSide k ≡ 1 = ap (λ t. if t then 1 else 0) (same_number k) in absurd (omega (arith, b, e))

pub counts_are : (c : Counts) (a b : ℕ) → c.promises ≡ a → c.futures ≡ b → c ≡ record { promises = a; futures = b }
counts_are c a b e f = rw (sym e, sym f) refl

pub one_is : (s : Side) (k : ℕ) → one s k s k ≡ 1
one_is PromiseSide k = ap (λ t. if t then 1 else 0) (same_number k)
one_is FutureSide k = ap (λ t. if t then 1 else 0) (same_number k)

-- what a released side leaves, by what was kept
pub left_counts : (side : Side) (k a b : ℕ) (c : Counts) → c.promises ≡ a + one PromiseSide k side k → c.futures ≡ b + one FutureSide k side k
    → released (memory_side side) c ≡ record { promises = a; futures = b }
left_counts PromiseSide k a b c e f =
    let x = one_is PromiseSide k in counts_are (released Promise c) a b (omega (arith, e, x)) (omega (arith, f))
left_counts FutureSide k a b c e f =
    let x = one_is FutureSide k in counts_are (released Future c) a b (omega (arith, e)) (omega (arith, f, x))

pub side_counts : (side : Side) (k a b : ℕ) (c : Counts) → c.promises ≡ a + one PromiseSide k side k → c.futures ≡ b + one FutureSide k side k → 0 < count_of (memory_side side) c
side_counts PromiseSide k a b c e f = let x = one_is PromiseSide k in omega (arith, e, x)
side_counts FutureSide k a b c e f = let x = one_is FutureSide k in omega (arith, f, x)

module _ (r : RawTree) (h : HeapTree) (p : Proc Frame) (kd : Kind) (k : ℕ) (o : Option OutcomeTree) (ws : List Waiter) (l : Losing r h p kd k (Single o ws)) (m : CellTree Outcome)
    (at : stored.thing h.cells.things k ≡ Some m) where
  abbrev sd : Side
  sd = side_of kd

  abbrev P : ℕ
  P = references PromiseSide k p

  abbrev F : ℕ
  F = references FutureSide k p

  pub single : AsSingle (spot_of_actor p.actors) m (stored.thing h.streams.things k) (thing p.core.cells k)
  single = single_at (spot_of_actor p.actors) h.cells.things h.streams.things p.core.cells l.shows.cells k m at

  same_cell : (Single (option_map outcome_of m.content) single.waiters) ≡ Single o ws
  same_cell = let a = single.cell in let b = l.cell in cc (a, b)

  same_content : option_map outcome_of m.content ≡ o
  same_content = let a = same_cell in cc (a)

  same_waiters : m.waiters ≡ map (waiter_in (spot_of_actor p.actors)) ws
  same_waiters = single.waiting ∙ ap (map (waiter_in (spot_of_actor p.actors))) (let a = same_cell in cc (a))

  pub kept_is : (s : Side) → count_of (memory_side s) m.references ≡ references s k p + one s k sd k
  kept_is s = sym (ap (λ x. count_at s x (stored.thing h.streams.things k)) at) ∙ l.counted s k

  pub less_is : released (memory_side sd) m.references ≡ record { promises = P; futures = F }
  less_is = left_counts sd k P F m.references (kept_is PromiseSide) (kept_is FutureSide)

  counts_there : 0 < count_of (memory_side sd) m.references
  counts_there = side_counts sd k P F m.references (kept_is PromiseSide) (kept_is FutureSide)

  -- a cell that stays
  abbrev kept_heap : HeapTree
  kept_heap = cell_put k (record m { references = released (memory_side sd) m.references }) h

  stays : Same r kept_heap p
  stays = (
    cell_counted r h p k m (released (memory_side sd) m.references) l.shows at,
    λ s j. let a = cell_released h s j k m sd at counts_there in let b = l.counted s j in omega (arith, a, b),
  )

  -- one that goes
  no_waiter : F ≡ 0 → ws ≡ []
  no_waiter e = unwaited k ws (let a = of_gone p FutureSide k k (Single o ws) l.cell in omega (arith, a, e))

  held_same : map value_of (content m.content) ≡ held (Single o ws)
  held_same = by_content m.content ∙ ap good same_content
    where
      by_content : (c : Option Outcome) → map value_of (content c) ≡ good (option_map outcome_of c)
      by_content None = refl
      by_content (Some (outcome.Value v)) = refl
      by_content (Some (outcome.Error e)) = refl

  abbrev gone_heap : HeapTree
  gone_heap = dropping (content m.content) (record h { cells = without h.cells k })

  abbrev gone_proc : Proc Frame
  gone_proc = on_core (dropping_values (map value_of (content m.content))) (on_core (without_cell k) p)

  gone_is : gone_proc ≡ on_core (free k) p
  gone_is =
      ap (λ vs. on_core (dropping_values vs) (on_core (without_cell k) p)) held_same
      ∙ sym (ap (λ x. on_core (free_cell k x) p) l.cell)

  gone_counts : P ≡ 0 → F ≡ 0 → (s : Side) (j : ℕ) → kept_count s j gone_heap ≡ references s j gone_proc + 0
  gone_counts pz fz s j =
      let a = of_values (on_core (without_cell k) p) s j (map value_of (content m.content)) in
      let b = of_gone p s j k (Single o ws) l.cell in
      let c = ap (λ vs. count s j (refs_in vs)) held_same in
      let d = ap (count_waiters s j k) (no_waiter fz) in
      let same : references s j gone_proc ≡ references s j p = omega (arith, a, b, c, d) in
      let kept : kept_count s j gone_heap ≡ references s j p = by_number j in omega (arith, same, kept)
    where
      none_here : (s : Side) → references s k p ≡ 0
      none_here PromiseSide = pz
      none_here FutureSide = fz

      by_number : (j : ℕ) → kept_count s j gone_heap ≡ references s j p
      by_number =
          each_number k (λ j. kept_count s j gone_heap ≡ references s j p)
          (ap (λ x. count_at s x (stored.thing h.streams.things k)) (stored_gone h.cells.things h.cells.greatest k l.sorted.cells) ∙ ap (count_at s None) single.no_stream ∙ sym (none_here s))
          (λ j n. ap (λ x. count_at s x (stored.thing h.streams.things j)) (stored_removed h.cells.things k j n)
          ∙ (let a = l.counted s j in let b = no_one s k j sd n in omega (arith, a, b)))

  goes : P ≡ 0 → F ≡ 0 → Same r gone_heap (on_core (free k) p)
  goes pz fz = subst (Same r gone_heap) gone_is (
    values_shown r (record h { cells = without h.cells k }) (on_core (without_cell k) p) (content m.content) (cell_gone r h p k m l.shows at l.sorted.cells l.numbers.cells),
    gone_counts pz fz,
  )

  -- the promise side broke, if it isn't set
  breaks : LossMatches r p k (kept_heap, broken_if_not (set_in m.content)) (promises_gone (is_complete (Single o ws)))
  breaks = subst (λ x. LossMatches r p k (kept_heap, broken_if_not (set_in m.content)) (promises_gone (is_complete (Single x ws)))) same_content (by_content m.content)
    where
      by_content : (c : Option Outcome) → LossMatches r p k (kept_heap, broken_if_not (set_in c)) (promises_gone (is_complete (Single (option_map outcome_of c) ws)))
      by_content None = stays
      by_content (Some x) = stays

  -- no future is left: the actor of the result is cancelled, unless it is marked
  no_port : (x : Option ℕ) → port_of k p.core.ports ≡ x → x ≡ None
  no_port None e = refl
  no_port (Some q) e = absurd (subst IsStream l.cell (l.owned.port q k e).0)

  orphan : LossMatches r p k (kept_heap, cancel_owner h.actors.things (heap.owner k h.actors.things)) (futures_gone (owner k p.core.entries) (port_of k p.core.ports))
  orphan =
      subst (λ x. LossMatches r p k (kept_heap, cancel_owner h.actors.things (heap.owner k h.actors.things)) (futures_gone (owner k p.core.entries) x)) (sym (no_port (port_of k p.core.ports) refl))
      (by_owner (heap.owner k h.actors.things) refl (owner k p.core.entries) refl)
    where
      person : (i : ℕ) (n : Note) → stored.thing h.actors.things i ≡ Some n → Somebody r (stored.thing h.actors.things i) (stored.thing h.frames.things i) (thing p.core.entries i) (thing p.actors i)
      person i n e = by_note r (stored.thing h.actors.things i) (stored.thing h.frames.things i) (thing p.core.entries i) (thing p.actors i) n e (l.shows.actors i)

      acting : (i : ℕ) (e : Entry) → thing p.core.entries i ≡ Some e → Somebody r (stored.thing h.actors.things i) (stored.thing h.frames.things i) (thing p.core.entries i) (thing p.actors i)
      acting i e f = by_entry r (stored.thing h.actors.things i) (stored.thing h.frames.things i) (thing p.core.entries i) (thing p.actors i) e f (l.shows.actors i)

      few : (i : ℕ) (e : Entry) → thing p.core.entries i ≡ Some e → e.result ≡ Some k → in_entries PromiseSide k p.core.entries ≤ 1
      few i e f g = let a = (l.owned.result i k e f g).1 in omega (arith, a)

      by_mark : (i : ℕ) (n : Note) (e : Entry) → stored.thing h.actors.things i ≡ Some n → thing p.core.entries i ≡ Some e → e.result ≡ Some k → (b : Bool) → n.marked ≡ b → e.marked ≡ b
          → (x : Option (ℕ × Entry)) → owner k p.core.entries ≡ x → LossMatches r p k (kept_heap, cancel_if_not i (Some n)) (futures_gone x None)
      by_mark i n e ni ei ek true nm em None u = subst (λ b. LossMatches r p k (kept_heap, if b then memory.Nothing else memory.Cancel (actor_id i)) (futures_gone None None)) (sym nm) stays
      by_mark i n e ni ei ek true nm em (Some y) u =
          let g = entry_found k 0 p.core.started y p.core.entries l.entries u in
          let same : i ≡ y.0 = one_owner k i y.0 e y.1 p.core.entries (few i e ei ek) ei g.0 ek g.1 in
          let f : e ≡ y.1 = cc (subst (λ j. thing p.core.entries j ≡ Some e) same ei, g.0) in absurd (cc (em, g.2, f))
      by_mark i n e ni ei ek false nm em None u = let g = entry_unfound k i e p.core.entries u ei ek in absurd (cc (em, g))
      by_mark i n e ni ei ek false nm em (Some y) u =
          let g = entry_found k 0 p.core.started y p.core.entries l.entries u in
          let same : i ≡ y.0 = one_owner k i y.0 e y.1 p.core.entries (few i e ei ek) ei g.0 ek g.1 in
          subst (λ b. LossMatches r p k (kept_heap, if b then memory.Nothing else memory.Cancel (actor_id i)) (futures_gone (Some y) None)) (sym nm) (ap actor_id same, g.0, stays)

      by_owner : (x : Option ℕ) → heap.owner k h.actors.things ≡ x → (y : Option (ℕ × Entry)) → owner k p.core.entries ≡ y
          → LossMatches r p k (kept_heap, cancel_owner h.actors.things x) (futures_gone y None)
      by_owner None e None f = stays
      by_owner None e (Some y) f =
          let g = entry_found k 0 p.core.started y p.core.entries l.entries f in
          let a = acting y.0 y.1 g.0 in
          let same : a.entry ≡ y.1 = let b = a.entered in cc (b, g.0) in
          let u = note_unfound k y.0 a.note h.actors.things e a.noted in
          let v = result_noted k a.note.result (sym a.same.result ∙ ap (λ (z : Entry). z.result) same ∙ g.1) in absurd (cc (u, v))
      by_owner (Some i) e y f =
          let g = note_found k i 0 h.actors.greatest h.actors.things l.sorted.actors e in
          let a = person i g.0 g.1 in
          let same : a.note ≡ g.0 = let b = a.noted in let c = g.1 in cc (b, c) in
          let ek = a.same.result ∙ ap (λ (z : Note). option_map cell_number z.result) same ∙ noted_result k g.0.result g.2 in
          subst (λ z. LossMatches r p k (kept_heap, cancel_if_not i z) (futures_gone y None)) (sym g.1)
          (by_mark i g.0 a.entry g.1 a.entered ek g.0.marked refl (a.same.marked ∙ ap (λ (z : Note). z.marked) same) y f)

  -- each case
  by_counts : (side : Side) → sd ≡ side → (a b : ℕ) → P ≡ a → F ≡ b
      → LossMatches r p k (cell_lost k (cell_less (memory_side sd) m) h (counts.loss (memory_side side) (record { promises = a; futures = b })))
      (loss side a b (Single o ws) (owner k p.core.entries) (port_of k p.core.ports))
  by_counts PromiseSide e zero zero pz fz = goes pz fz
  by_counts FutureSide e zero zero pz fz = goes pz fz
  by_counts PromiseSide e zero (suc b) pz fz = breaks
  by_counts FutureSide e zero (suc b) pz fz = stays
  by_counts PromiseSide e (suc a) zero pz fz = stays
  by_counts FutureSide e (suc a) zero pz fz = orphan
  by_counts PromiseSide e (suc a) (suc b) pz fz = stays
  by_counts FutureSide e (suc a) (suc b) pz fz = stays

  pub single_follows : LossMatches r p k (drop_cell (memory_side sd) k h (stored.thing h.cells.things k)) (loss sd P F (Single o ws) (owner k p.core.entries) (port_of k p.core.ports))
  single_follows =
      subst (λ x. LossMatches r p k (drop_cell (memory_side sd) k h x) (loss sd P F (Single o ws) (owner k p.core.entries) (port_of k p.core.ports))) (sym at)
      (subst (λ c. LossMatches r p k (cell_lost k (cell_less (memory_side sd) m) h (counts.loss (memory_side sd) c)) (loss sd P F (Single o ws) (owner k p.core.entries) (port_of k p.core.ports)))
      (sym less_is)
      (by_counts sd refl P F refl refl))

  -- and it may be dropped
  pub single_may : may_drop_cell (memory_side sd) (stored.thing h.cells.things k) ≡ true
  single_may =
      ap (may_drop_cell (memory_side sd)) at
      ∙ ap (cell_may_lose (is_none (slice_get m.waiters 0))) (loss_is (grind (arith, nat_tests, counts_there)))
      ∙ ap (λ c. cell_may_lose (is_none (slice_get m.waiters 0)) (Some (counts.loss (memory_side sd) c))) less_is
      ∙ by_case sd P F refl refl
    where
      loss_is : nat_lt 0 (count_of (memory_side sd) m.references) ≡ true → loss_of (memory_side sd) m.references ≡ Some (counts.loss (memory_side sd) (released (memory_side sd) m.references))
      loss_is e = ap (λ t. if t then Some (counts.loss (memory_side sd) (released (memory_side sd) m.references)) else None) e

      alone : F ≡ 0 → is_none (slice_get m.waiters 0) ≡ true
      alone e = ap (λ vs. is_none (slice_get vs 0)) (same_waiters ∙ ap (map (waiter_in (spot_of_actor p.actors))) (no_waiter e))

      by_case : (side : Side) (a b : ℕ) → P ≡ a → F ≡ b → cell_may_lose (is_none (slice_get m.waiters 0)) (Some (counts.loss (memory_side side) (record { promises = a; futures = b }))) ≡ true
      by_case PromiseSide zero zero e f = alone f
      by_case FutureSide zero zero e f = alone f
      by_case PromiseSide zero (suc b) e f = refl
      by_case FutureSide zero (suc b) e f = refl
      by_case PromiseSide (suc a) zero e f = refl
      by_case FutureSide (suc a) zero e f = refl
      by_case PromiseSide (suc a) (suc b) e f = refl
      by_case FutureSide (suc a) (suc b) e f = refl
