-- What no loss of a reference takes from a heap: no cell is kept without a reference, and the result of an unfinished actor
-- that isn't marked has a future.
use Rattle.std.specs.Prelude.{◌≡◌, ℕ, ◌+◌, ◌<◌, false}
use Rattle.std.specs.declared.option.Option.{Option}
use Rattle.std.specs.declared.option.Option.TheVariants.{None, Some}
use Rattle.flow_base.specs.declared.ids.CellId.{CellId}
use Rattle.flow_value.specs.declared.value.Kind.{Kind}
use Rattle.flow_value.specs.declared.value.Value.{Value}
use Rattle.flow_value.specs.declared.value.Outcome.{Outcome}
use Rattle.flow_class.specs.Classes.{RawTree}
use Rattle.flow_numbered.specs.Numbered as stored
use Rattle.flow_cell.specs.Cells.{CellTree, held}
use Rattle.flow_stream.specs.Streams.{StreamTree}
use Rattle.flow_cancel.specs.declared.actors.Note.{Note}
use Rattle.flow_cancel.specs.declared.task.Dropped.{Dropped}
use Rattle.flow_cancel.specs.declared.task.Dropped.TheVariants.{Cancel, Nothing}
use Rattle.flow_cancel.specs.Heap.{HeapTree, actor_id, next_cell, with_result, with_stream}
use Rattle.flow_cancel.specs.Dropping.{dropped}
use Rattle.flow_cancel.specs.Leaving.{marked}
use Rattle.flow_numbered.specs.Numbered.{thing}
use Rattle.flow_meaning.specs.Cells.{Side, FutureSide, Cell}
use Rattle.flow_meaning.specs.Process.{Entry, Proc}
use Rattle.flow_meaning.specs.Frame.{Frame}
use Rattle.flow_heap_refinement.specs.Representing.{Represents}
use Rattle.flow_heap_refinement.specs.Counted.{memory_side, references, nothing_in_hand, Counted}
use Rattle.flow_heap_refinement.specs.Changes.{cell_put, stream_put}
use Rattle.flow_heap_refinement.specs.Rested.{Referenced}
use Rattle.flow_heap_refinement.specs.Losing.{Losing}

-- a cell has a reference
abbrev pub AliveAt : Option (CellTree Outcome) → Option (StreamTree Value) → Type 0
AliveAt (Some c) s = 0 < c.references.promises + c.references.futures
AliveAt None (Some s) = 0 < s.references.promises + s.references.futures
AliveAt None None = Unit {0}

-- each cell has one, and each but that with a number
abbrev pub Alive : HeapTree → Type 0
Alive h = (k : ℕ) → AliveAt (stored.thing h.cells.things k) (stored.thing h.streams.things k)

abbrev pub AliveBut : ℕ → HeapTree → Type 0
AliveBut n h =
    (k : ℕ) → (n ≡ k → ⊥) → AliveAt (stored.thing h.cells.things k) (stored.thing h.streams.things k)

-- a single result has a future
pub record HasFuture (k : ℕ) (h : HeapTree) : Type 0 where
  pub cell : CellTree Outcome
  pub there : stored.thing h.cells.things k ≡ Some cell
  pub future : 0 < cell.references.futures

-- the result of each unfinished actor that isn't marked has one, but for an actor that is to be cancelled
abbrev pub WantedBut : Dropped → HeapTree → Type 0
WantedBut d h =
    (i : ℕ) (n : Note) (k : CellId) → stored.thing h.actors.things i ≡ Some n → n.marked ≡ false
    → n.result ≡ Some k
    → (d ≡ Cancel (actor_id i) → ⊥) → HasFuture k.0 h

abbrev pub Wanted : HeapTree → Type 0
Wanted h = WantedBut Nothing h

module _ (r : RawTree) (h : HeapTree) (p : Proc Frame) where
  -- no loss of a reference leaves a cell without one
  abbrev pub LossAlive : Type 0
  LossAlive = (kd : Kind) (k : ℕ) (c : Cell) → Losing r h p kd k c → Alive h → Alive (dropped kd k h).0

  -- nor an unmarked actor without a future, but the one that is to be cancelled
  abbrev pub LossWanted : Type 0
  LossWanted =
      (kd : Kind) (k : ℕ) (c : Cell) → Losing r h p kd k c → Wanted h
      → WantedBut (dropped kd k h).1 (dropped kd k h).0

  -- so it is in the process that the heap shows
  abbrev pub AliveShown : Type 0
  AliveShown = Represents r h p → Counted nothing_in_hand h p → Alive h → Referenced p

  abbrev pub WantedShown : Type 0
  WantedShown =
      (i k : ℕ) (e : Entry) → Represents r h p → Counted nothing_in_hand h p → Wanted h
      → thing p.core.entries i ≡ Some e → e.marked ≡ false → e.result ≡ Some k → 0 < references FutureSide k p

module _ (h : HeapTree) where
  -- a new cell has no reference until one is held
  abbrev pub ResultAlive : Type 0
  ResultAlive = Alive h → AliveBut (next_cell h) (with_result (next_cell h) h)

  abbrev pub StreamAlive : Type 0
  StreamAlive = Alive h → AliveBut (next_cell h) (with_stream (next_cell h) h)

  abbrev pub HeldAlive : Type 0
  HeldAlive =
      (k : ℕ) (m : CellTree Outcome) (s : Side) → AliveBut k h → stored.thing h.cells.things k ≡ Some m
      → Alive (cell_put k (record m { references = held (memory_side s) m.references }) h)

  abbrev pub StreamHeldAlive : Type 0
  StreamHeldAlive =
      (k : ℕ) (m : StreamTree Value) (s : Side) → AliveBut k h → stored.thing h.cells.things k ≡ None
      → stored.thing h.streams.things k ≡ Some m
      → Alive (stream_put k (record m { references = held (memory_side s) m.references }) h)

  -- the actor that was to be cancelled is marked
  abbrev pub MarkWanted : Type 0
  MarkWanted =
      (i : ℕ) (n : Note) → stored.thing h.actors.things i ≡ Some n → WantedBut (Cancel (actor_id i)) h
      → Wanted (marked i h)
