-- How the counts that a heap keeps change with what is done to it. What changes no cell changes no count.
use Rattle.std.specs.Prelude.{◌≡◌, ℕ, ◌+◌, ◌<◌}
use Rattle.std.specs.declared.option.Option.TheVariants.{None, Some}
use Rattle.flow_value.specs.declared.value.Value.{Value}
use Rattle.flow_value.specs.declared.value.Outcome.{Outcome}
use Rattle.flow_numbered.specs.Numbered as stored
use Rattle.flow_cell.specs.Cells.{CellTree, no_counts, count_of, held, released}
use Rattle.flow_stream.specs.Streams.{StreamTree}
use Rattle.flow_cancel.specs.Heap.{HeapTree, next_cell, with_result, with_stream, without}
use Rattle.flow_meaning.specs.Cells.{Side}
use Rattle.flow_meaning.specs.References.{one}
use Rattle.flow_heap_refinement.specs.Counted.{memory_side, kept_count}
use Rattle.flow_heap_refinement.specs.Changes.{cell_put, stream_put}

module _ (h : HeapTree) (s : Side) (j : ℕ) where
  -- a single result and a stream, of which the counts stay; of which one reference more counts; and one less
  abbrev pub CellKeeps : Type 0
  CellKeeps =
      (k : ℕ) (m n : CellTree Outcome) → stored.thing h.cells.things k ≡ Some m
      → n.references ≡ m.references → kept_count s j (cell_put k n h) ≡ kept_count s j h

  abbrev pub StreamKeeps : Type 0
  StreamKeeps =
      (k : ℕ) (m n : StreamTree Value) → stored.thing h.streams.things k ≡ Some m
      → n.references ≡ m.references → kept_count s j (stream_put k n h) ≡ kept_count s j h

  abbrev pub CellHeld : Type 0
  CellHeld =
      (k : ℕ) (m : CellTree Outcome) (side : Side) → stored.thing h.cells.things k ≡ Some m
      → kept_count s j (cell_put k (record m {
        references =
            held (memory_side side) m.references;
      }) h) ≡ one s j side k + kept_count s j h

  abbrev pub StreamHeld : Type 0
  StreamHeld =
      (k : ℕ) (m : StreamTree Value) (side : Side) → stored.thing h.cells.things k ≡ None
      → stored.thing h.streams.things k ≡ Some m
      → kept_count s j (stream_put k (record m {
        references =
            held (memory_side side) m.references;
      }) h) ≡ one s j side k + kept_count s j h

  abbrev pub CellReleased : Type 0
  CellReleased =
      (k : ℕ) (m : CellTree Outcome) (side : Side) → stored.thing h.cells.things k ≡ Some m
      → 0 < count_of (memory_side side) m.references
      → kept_count s j h ≡ one s j side k + kept_count s j
      (cell_put k (record m { references = released (memory_side side) m.references }) h)

  abbrev pub StreamReleased : Type 0
  StreamReleased =
      (k : ℕ) (m : StreamTree Value) (side : Side) → stored.thing h.cells.things k ≡ None
      → stored.thing h.streams.things k ≡ Some m → 0 < count_of (memory_side side) m.references
      → kept_count s j h ≡ one s j side k + kept_count s j
      (stream_put k (record m { references = released (memory_side side) m.references }) h)

  -- a new cell has no reference, and one without a reference may go
  abbrev pub ResultKeeps : Type 0
  ResultKeeps =
      stored.thing h.cells.things (next_cell h) ≡ None
      → stored.thing h.streams.things (next_cell h) ≡ None
      → kept_count s j (with_result (next_cell h) h) ≡ kept_count s j h

  abbrev pub NewStreamKeeps : Type 0
  NewStreamKeeps =
      stored.thing h.cells.things (next_cell h) ≡ None
      → stored.thing h.streams.things (next_cell h) ≡ None
      → kept_count s j (with_stream (next_cell h) h) ≡ kept_count s j h

  abbrev pub CellFreed : Type 0
  CellFreed =
      (k : ℕ) (m : CellTree Outcome) → stored.thing h.cells.things k ≡ Some m
      → stored.thing h.streams.things k ≡ None → m.references ≡ no_counts
      → stored.IsRising 0 h.cells.things h.cells.greatest
      → kept_count s j (record h { cells = without h.cells k }) ≡ kept_count s j h

  abbrev pub StreamFreed : Type 0
  StreamFreed =
      (k : ℕ) (m : StreamTree Value) → stored.thing h.cells.things k ≡ None
      → stored.thing h.streams.things k ≡ Some m → m.references ≡ no_counts
      → stored.IsRising 0 h.streams.things h.streams.greatest
      → kept_count s j (record h { streams = without h.streams k }) ≡ kept_count s j h
