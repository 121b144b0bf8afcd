-- No cell is kept without a reference, and no unmarked actor without a future of its result.
use Rattle.std.proofs.Common.{◌≡◌, ℕ, ◌+◌, ◌<◌, true, false, refl, sym, ap, ◌∙◌, subst, arith}
use Rattle.std.specs.Option.{option_map}
use Rattle.std.specs.declared.option.Option.{Option}
use Rattle.std.specs.declared.option.Option.TheVariants.{None, Some}
use Rattle.flow_base.specs.declared.ids.CellId.{CellId}
use Rattle.flow_value.specs.declared.value.Value.{Value}
use Rattle.flow_value.specs.declared.value.Outcome.{Outcome}
use Rattle.flow_class.specs.Classes.{RawTree}
use Rattle.flow_numbered.specs.Numbered as stored
use Rattle.flow_cell.specs.Cells.{CellTree, held}
use Rattle.flow_stream.specs.Streams.{StreamTree}
use Rattle.flow_cancel.specs.declared.actors.Note.{Note}
use Rattle.flow_cancel.specs.declared.task.Dropped.{Dropped}
use Rattle.flow_cancel.specs.declared.task.Dropped.TheVariants.{Cancel, Nothing}
use Rattle.flow_cancel.specs.Heap.{HeapTree, actor_id, next_cell}
use Rattle.flow_cancel.specs.Leaving.{marked_in}
use Rattle.flow_numbered.specs.Numbered.{thing}
use Rattle.flow_meaning.specs.Cells.{Side, PromiseSide, FutureSide, Cell, Single, Stream}
use Rattle.flow_meaning.specs.Process.{Entry, Proc}
use Rattle.flow_meaning.specs.Frame.{Frame}
use Rattle.flow_meaning.proofs.Posture.{each_number}
use Rattle.flow_heap_refinement.specs.Representing.{CellRepresents, spot_of_actor, cell_number}
use Rattle.flow_heap_refinement.specs.Counted.{memory_side, count_at, references, nothing_in_hand, Counted}
use Rattle.flow_heap_refinement.specs.Alive as law
use Rattle.flow_heap_refinement.specs.Alive.{AliveAt, Alive, AliveBut, HasFuture, WantedBut, Wanted}
use Rattle.flow_heap_refinement.proofs.Finds.{stored_other, stored_put, stored_added}
use Rattle.flow_heap_refinement.proofs.Actors.{by_entry}

-- what is counted of a cell on both sides
counted_there : (m : Option (CellTree Outcome)) (s : Option (StreamTree Value)) (spots : ℕ → _) (c : Cell) → CellRepresents spots m s (Some c) → AliveAt m s
    → 0 < count_at PromiseSide m s + count_at FutureSide m s
counted_there (Some m) None spots (Single o ws) h a = a
counted_there None (Some s) spots (Stream q e w) h a = a
counted_there None None spots c h a = absurd h
counted_there (Some m) None spots (Stream q e w) h a = absurd h
counted_there None (Some s) spots (Single o ws) h a = absurd h
counted_there (Some m) (Some s) spots c h a = absurd h

module _ (r : RawTree) (h : HeapTree) (p : Proc Frame) where
  pub alive_shown : law.AliveShown r h p
  alive_shown s counted alive k c at =
      let a = counted_there (stored.thing h.cells.things k) (stored.thing h.streams.things k) (spot_of_actor p.actors) c
      (subst (CellRepresents (spot_of_actor p.actors) (stored.thing h.cells.things k) (stored.thing h.streams.things k)) at (s.cells k)) (alive k) in
      let b = counted PromiseSide k in
      let d = counted FutureSide k in omega (arith, a, b, d)

  number_of : (o : Option CellId) (k : ℕ) → Some k ≡ option_map cell_number o → (c : CellId) × (o ≡ Some c) × (c.0 ≡ k)
  number_of None k e = absurd (cc)
  number_of (Some c) k e = (c, refl, cc (e))

  no_excuse : (i : ℕ) → Nothing ≡ Cancel (actor_id i) → ⊥
  no_excuse i e = cc

  has_future : (k : ℕ) (c : CellId) → Counted nothing_in_hand h p → c.0 ≡ k → HasFuture c.0 h → 0 < references FutureSide k p
  has_future k c counted same f =
      let g : stored.thing h.cells.things k ≡ Some f.cell = ap (stored.thing h.cells.things) (sym same) ∙ f.there in
      let a = counted FutureSide k in
      let d = ap (λ o. count_at FutureSide o (stored.thing h.streams.things k)) g in
      let x = f.future in omega (arith, a, d, x)

  noted_result : (k : ℕ) (n : Note) (x e : Entry) → x.result ≡ option_map cell_number n.result → x ≡ e → e.result ≡ Some k → Some k ≡ option_map cell_number n.result
  noted_result k n x e a b c = sym c ∙ ap (λ (y : Entry). y.result) (sym b) ∙ a

  noted_mark : (n : Note) (x e : Entry) → x.marked ≡ n.marked → x ≡ e → e.marked ≡ false → n.marked ≡ false
  noted_mark n x e a b c = sym a ∙ ap (λ (y : Entry). y.marked) b ∙ c

  pub wanted_shown : law.WantedShown r h p
  wanted_shown i k e s counted wanted at unmarked res =
      let b = by_entry r (stored.thing h.actors.things i) (stored.thing h.frames.things i) (thing p.core.entries i) (thing p.actors i) e at (s.actors i) in
      let same : b.entry ≡ e = let x = b.entered in cc (x, at) in
      let n = number_of b.note.result k (noted_result k b.note b.entry e b.same.result same res) in
      has_future k n.0 counted n.2 (wanted i b.note n.0 b.noted (noted_mark b.note b.entry e b.same.marked same unmarked) n.1 (no_excuse i))

abbrev cancelled_number : Dropped → ℕ
cancelled_number (Cancel a) = a.0
cancelled_number _ = 0

module _ (h : HeapTree) where
  pub result_alive : law.ResultAlive h
  result_alive a k n = subst (λ o. AliveAt o (stored.thing h.streams.things k)) (sym (stored_added h.cells.things (next_cell h) k _ n)) (a k)

  pub stream_alive : law.StreamAlive h
  stream_alive a k n = subst (AliveAt (stored.thing h.cells.things k)) (sym (stored_added h.streams.things (next_cell h) k _ n)) (a k)

  pub held_alive : law.HeldAlive h
  held_alive k m s a at =
      let n = record m { references = held (memory_side s) m.references } in
      each_number k (λ j. AliveAt (stored.thing (stored.put h.cells.things k n) j) (stored.thing h.streams.things j))
      (subst (λ o. AliveAt o (stored.thing h.streams.things k)) (sym (stored_put h.cells.things k m n at)) (by_side s))
      (λ j d. subst (λ o. AliveAt o (stored.thing h.streams.things j)) (sym (stored_other h.cells.things k j n d)) (a j d))
    where
      by_side : (s : Side) → 0 < (held (memory_side s) m.references).promises + (held (memory_side s) m.references).futures
      by_side PromiseSide = omega arith
      by_side FutureSide = omega arith

  pub stream_held_alive : law.StreamHeldAlive h
  stream_held_alive k m s a none at =
      let n = record m { references = held (memory_side s) m.references } in
      each_number k (λ j. AliveAt (stored.thing h.cells.things j) (stored.thing (stored.put h.streams.things k n) j))
      (subst (λ o. AliveAt o (stored.thing (stored.put h.streams.things k n) k)) (sym none) (subst (AliveAt None) (sym (stored_put h.streams.things k m n at)) (by_side s)))
      (λ j d. subst (AliveAt (stored.thing h.cells.things j)) (sym (stored_other h.streams.things k j n d)) (a j d))
    where
      by_side : (s : Side) → 0 < (held (memory_side s) m.references).promises + (held (memory_side s) m.references).futures
      by_side PromiseSide = omega arith
      by_side FutureSide = omega arith

  pub mark_wanted : law.MarkWanted h
  mark_wanted i n at w = subst (λ o. Wanted (record h { actors = marked_in i o h.actors })) (sym at) (λ j m k e u q x. same_future k.0 (by_number j m k u q e))
    where
      marks : {m : Note} → Some (record n { marked = true }) ≡ Some m → m.marked ≡ false → ⊥
      marks e f = cc

      same_future : (k : ℕ) → HasFuture k h → HasFuture k (record h { actors = marked_in i (Some n) h.actors })
      same_future k f = record { cell = f.cell; there = f.there; future = f.future }

      by_number : (j : ℕ) (m : Note) (k : CellId) → m.marked ≡ false → m.result ≡ Some k → stored.thing (stored.put h.actors.things i (record n { marked = true })) j ≡ Some m → HasFuture k.0 h
      by_number j m k u q =
          each_number i (λ j. stored.thing (stored.put h.actors.things i (record n { marked = true })) j ≡ Some m → HasFuture k.0 h)
          (λ f. absurd (marks (sym (stored_put h.actors.things i n (record n { marked = true }) at) ∙ f) u))
          (λ j d f. w j m k (sym (stored_other h.actors.things i j (record n { marked = true }) d) ∙ f) u q (λ g. d (ap cancelled_number g))) j
