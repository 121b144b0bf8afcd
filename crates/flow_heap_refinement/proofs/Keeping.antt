-- The counts that a heap keeps after each thing that is done to it.
use Rattle.std.proofs.Common.{◌≡◌, ℕ, ◌+◌, ◌<◌, nat_eq, Bool, true, false, if◌then◌else◌, refl, sym, ap, ◌∙◌, arith}
use Rattle.std.specs.Prelude.{◌&&◌}
use Rattle.std.specs.declared.option.Option.{Option}
use Rattle.std.specs.declared.option.Option.TheVariants.{None, Some}
use Rattle.flow_value.specs.declared.value.Value.{Value}
use Rattle.flow_value.specs.declared.value.Outcome.{Outcome}
use Rattle.flow_numbered.specs.Numbered as stored
use Rattle.flow_cell.specs.Cells.{CellTree, Counts, no_counts, count_of, held, released, unset}
use Rattle.flow_stream.specs.Streams.{StreamTree, empty}
use Rattle.flow_cancel.specs.Heap.{HeapTree, next_cell, with_result, with_stream, without}
use Rattle.flow_meaning.specs.Cells.{Side, PromiseSide, FutureSide}
use Rattle.flow_meaning.specs.References.{same_side, one}
use Rattle.flow_meaning.proofs.Posture.{same_number, other_number, each_number}
use Rattle.flow_heap_refinement.specs.Counted.{memory_side, count_at, kept_count}
use Rattle.flow_heap_refinement.specs.Changes.{cell_put, stream_put}
use Rattle.flow_heap_refinement.specs.CountChanges as of
use Rattle.flow_heap_refinement.proofs.Finds.{stored_other, stored_put, stored_added, stored_new, stored_removed, stored_gone}

abbrev mark : Bool → Bool → ℕ
mark t u = if t && u then 1 else 0

module _ (h : HeapTree) (s : Side) where
  -- another cell keeps its count
  elsewhere : (k j : ℕ) (side : Side) → (k ≡ j → ⊥) → one s j side k ≡ 0
  elsewhere k j side n = by_side (same_side s side) (other_number k j n)
    where
      by_side : (t : Bool) → nat_eq j k ≡ false → mark t (nat_eq j k) ≡ 0
      by_side true e = rw e refl
      by_side false e = refl

  here_more : (k : ℕ) (side : Side) (c : Counts) → count_of (memory_side s) (held (memory_side side) c) ≡ one s k side k + count_of (memory_side s) c
  here_more k side c = by_sides s side (same_number k)
    where
      by_sides : (s side : Side) → nat_eq k k ≡ true → count_of (memory_side s) (held (memory_side side) c) ≡ one s k side k + count_of (memory_side s) c
      by_sides PromiseSide PromiseSide e = rw e (omega arith)
      by_sides PromiseSide FutureSide e = omega arith
      by_sides FutureSide PromiseSide e = omega arith
      by_sides FutureSide FutureSide e = rw e (omega arith)

  here_less : (k : ℕ) (side : Side) (c : Counts) → 0 < count_of (memory_side side) c → count_of (memory_side s) c ≡ one s k side k + count_of (memory_side s) (released (memory_side side) c)
  here_less k side c l = by_sides s side (same_number k) l
    where
      by_sides : (s side : Side) → nat_eq k k ≡ true → 0 < count_of (memory_side side) c → count_of (memory_side s) c ≡ one s k side k + count_of (memory_side s) (released (memory_side side) c)
      by_sides PromiseSide PromiseSide e l = rw e (omega (arith, l))
      by_sides PromiseSide FutureSide e l = omega arith
      by_sides FutureSide PromiseSide e l = omega arith
      by_sides FutureSide FutureSide e l = rw e (omega (arith, l))

  -- what is kept of a cell that changes, and of the others
  cell_here : (k : ℕ) (m n : CellTree Outcome) → stored.thing h.cells.things k ≡ Some m → kept_count s k (cell_put k n h) ≡ count_of (memory_side s) n.references
  cell_here k m n e = ap (λ o. count_at s o (stored.thing h.streams.things k)) (stored_put h.cells.things k m n e)

  cell_other : (k j : ℕ) (n : CellTree Outcome) → (k ≡ j → ⊥) → kept_count s j (cell_put k n h) ≡ kept_count s j h
  cell_other k j n d = ap (λ o. count_at s o (stored.thing h.streams.things j)) (stored_other h.cells.things k j n d)

  stream_here : (k : ℕ) (m n : StreamTree Value) → stored.thing h.cells.things k ≡ None → stored.thing h.streams.things k ≡ Some m
      → kept_count s k (stream_put k n h) ≡ count_of (memory_side s) n.references
  stream_here k m n f e = ap (λ o. count_at s o (stored.thing (stored.put h.streams.things k n) k)) f ∙ ap (count_at s None) (stored_put h.streams.things k m n e)

  stream_other : (k j : ℕ) (n : StreamTree Value) → (k ≡ j → ⊥) → kept_count s j (stream_put k n h) ≡ kept_count s j h
  stream_other k j n d = ap (count_at s (stored.thing h.cells.things j)) (stored_other h.streams.things k j n d)

  cell_is : (k : ℕ) (m : CellTree Outcome) → stored.thing h.cells.things k ≡ Some m → kept_count s k h ≡ count_of (memory_side s) m.references
  cell_is k m e = ap (λ o. count_at s o (stored.thing h.streams.things k)) e

  stream_is : (k : ℕ) (m : StreamTree Value) → stored.thing h.cells.things k ≡ None → stored.thing h.streams.things k ≡ Some m → kept_count s k h ≡ count_of (memory_side s) m.references
  stream_is k m f e = ap (λ o. count_at s o (stored.thing h.streams.things k)) f ∙ ap (count_at s None) e

  pub cell_held : (j : ℕ) → of.CellHeld h s j
  cell_held j k m side e =
      let n = record m { references = held (memory_side side) m.references } in
      each_number k (λ j. kept_count s j (cell_put k n h) ≡ one s j side k + kept_count s j h)
      (cell_here k m n e ∙ here_more k side m.references ∙ ap (λ x. one s k side k + x) (sym (cell_is k m e)))
      (λ j d. let a = cell_other k j n d in let b = elsewhere k j side d in omega (arith, a, b)) j

  pub stream_held : (j : ℕ) → of.StreamHeld h s j
  stream_held j k m side f e =
      let n = record m { references = held (memory_side side) m.references } in
      each_number k (λ j. kept_count s j (stream_put k n h) ≡ one s j side k + kept_count s j h)
      (stream_here k m n f e ∙ here_more k side m.references ∙ ap (λ x. one s k side k + x) (sym (stream_is k m f e)))
      (λ j d. let a = stream_other k j n d in let b = elsewhere k j side d in omega (arith, a, b)) j

  pub cell_released : (j : ℕ) → of.CellReleased h s j
  cell_released j k m side e l =
      let n = record m { references = released (memory_side side) m.references } in
      each_number k (λ j. kept_count s j h ≡ one s j side k + kept_count s j (cell_put k n h))
      (cell_is k m e ∙ here_less k side m.references l ∙ ap (λ x. one s k side k + x) (sym (cell_here k m n e)))
      (λ j d. let a = cell_other k j n d in let b = elsewhere k j side d in omega (arith, a, b)) j

  pub stream_released : (j : ℕ) → of.StreamReleased h s j
  stream_released j k m side f e l =
      let n = record m { references = released (memory_side side) m.references } in
      each_number k (λ j. kept_count s j h ≡ one s j side k + kept_count s j (stream_put k n h))
      (stream_is k m f e ∙ here_less k side m.references l ∙ ap (λ x. one s k side k + x) (sym (stream_here k m n f e)))
      (λ j d. let a = stream_other k j n d in let b = elsewhere k j side d in omega (arith, a, b)) j

  pub cell_keeps : (j : ℕ) → of.CellKeeps h s j
  cell_keeps j k m n e f =
      each_number k (λ j. kept_count s j (cell_put k n h) ≡ kept_count s j h) (cell_here k m n e ∙ ap (count_of (memory_side s)) f ∙ sym (cell_is k m e)) (λ j d. cell_other k j n d) j

  pub stream_keeps : (j : ℕ) → of.StreamKeeps h s j
  stream_keeps j k m n e f =
      each_number k (λ j. kept_count s j (stream_put k n h) ≡ kept_count s j h)
      (by_cell (stored.thing h.cells.things k)) (λ j d. stream_other k j n d) j
    where
      by_cell : (o : Option (CellTree Outcome)) → count_at s o (stored.thing (stored.put h.streams.things k n) k) ≡ count_at s o (stored.thing h.streams.things k)
      by_cell (Some c) = refl
      by_cell None = ap (count_at s None) (stored_put h.streams.things k m n e) ∙ ap (count_of (memory_side s)) f ∙ sym (ap (count_at s None) e)

  zero_of : (side : Side) → count_of (memory_side side) no_counts ≡ 0
  zero_of PromiseSide = refl
  zero_of FutureSide = refl

  pub result_keeps : (j : ℕ) → of.ResultKeeps h s j
  result_keeps j a b =
      each_number (next_cell h) (λ j. kept_count s j (with_result (next_cell h) h) ≡ kept_count s j h)
      (ap (λ o. count_at s o (stored.thing h.streams.things (next_cell h))) (stored_new h.cells.things (next_cell h) unset a) ∙ zero_of s ∙ sym (none_kept (next_cell h) a b))
      (λ j d. ap (λ o. count_at s o (stored.thing h.streams.things j)) (stored_added h.cells.things (next_cell h) j unset d)) j
    where
      none_kept : (k : ℕ) → stored.thing h.cells.things k ≡ None → stored.thing h.streams.things k ≡ None → kept_count s k h ≡ 0
      none_kept k a b = ap (λ o. count_at s o (stored.thing h.streams.things k)) a ∙ ap (count_at s None) b

  pub new_stream_keeps : (j : ℕ) → of.NewStreamKeeps h s j
  new_stream_keeps j a b =
      each_number (next_cell h) (λ j. kept_count s j (with_stream (next_cell h) h) ≡ kept_count s j h)
      (ap (λ o. count_at s o (stored.thing (stored.added h.streams.things (next_cell h) empty) (next_cell h))) a ∙ ap (count_at s None) (stored_new h.streams.things (next_cell h) empty b) ∙ zero_of s
      ∙ sym (none_kept (next_cell h) a b))
      (λ j d. ap (count_at s (stored.thing h.cells.things j)) (stored_added h.streams.things (next_cell h) j empty d)) j
    where
      none_kept : (k : ℕ) → stored.thing h.cells.things k ≡ None → stored.thing h.streams.things k ≡ None → kept_count s k h ≡ 0
      none_kept k a b = ap (λ o. count_at s o (stored.thing h.streams.things k)) a ∙ ap (count_at s None) b

  pub cell_freed : (j : ℕ) → of.CellFreed h s j
  cell_freed j k m e f c r =
      each_number k (λ j. kept_count s j (record h { cells = without h.cells k }) ≡ kept_count s j h)
      (ap (λ o. count_at s o (stored.thing h.streams.things k)) (stored_gone h.cells.things h.cells.greatest k r) ∙ ap (count_at s None) f
      ∙ sym (cell_is k m e ∙ ap (count_of (memory_side s)) c ∙ zero_of s))
      (λ j d. ap (λ o. count_at s o (stored.thing h.streams.things j)) (stored_removed h.cells.things k j d)) j

  pub stream_freed : (j : ℕ) → of.StreamFreed h s j
  stream_freed j k m f e c r =
      each_number k (λ j. kept_count s j (record h { streams = without h.streams k }) ≡ kept_count s j h)
      (ap (λ o. count_at s o (stored.thing (stored.removed h.streams.things k) k)) f ∙ ap (count_at s None) (stored_gone h.streams.things h.streams.greatest k r)
      ∙ sym (stream_is k m f e ∙ ap (count_of (memory_side s)) c ∙ zero_of s))
      (λ j d. ap (count_at s (stored.thing h.cells.things j)) (stored_removed h.streams.things k j d)) j

-- a reference to one cell is none to another
pub no_one : (s : Side) (k j : ℕ) (side : Side) → (k ≡ j → ⊥) → one s j side k ≡ 0
no_one s k j side n = by_side (same_side s side) (other_number k j n)
  where
    by_side : (t : Bool) → nat_eq j k ≡ false → mark t (nat_eq j k) ≡ 0
    by_side true e = rw e refl
    by_side false e = refl
