-- Changes of a heap that are changes of the process that it shows.
use Rattle.std.specs.Prelude.{◌≡◌, ℕ, List, [], ◌∷◌, ◌++◌, map}
use Rattle.std.specs.declared.option.Option.TheVariants.{None, Some}
use Rattle.flow_base.specs.declared.ids.ErrorCode.{ErrorCode}
use Rattle.flow_value.specs.declared.value.Value.{Value}
use Rattle.flow_value.specs.declared.value.Outcome.{Outcome}
use Rattle.flow_value.specs.Values.{GoodOutcome, BadOutcome}
use Rattle.flow_value.specs.View.{value_of, outcome_of}
use Rattle.flow_class.specs.Classes.{RawTree}
use Rattle.flow_numbered.specs.Numbered as stored
use Rattle.flow_cell.specs.Cells.{CellTree, Counts}
use Rattle.flow_stream.specs.Streams.{StreamTree, with_item}
use Rattle.flow_cancel.specs.declared.task.Task as stack
use Rattle.flow_cancel.specs.declared.task.Task.TheVariants as task
use Rattle.flow_cancel.specs.Heap as memory
use Rattle.flow_cancel.specs.Heap.{HeapTree, cell_id, next_cell, with_result, with_stream}
use Rattle.flow_cancel.specs.Dropping as memory_drops
use Rattle.flow_numbered.specs.Numbered.{thing, put, removed}
use Rattle.flow_meaning.specs.Cells.{Ref, Waiter, Cell, Single, Stream, taken, after_taking, with_waiter}
use Rattle.flow_meaning.specs.Process.{Task, Core, Proc}
use Rattle.flow_meaning.specs.Work.{pushed, dropping, dropping_values, new_cell, fill}
use Rattle.flow_meaning.specs.Step.{kept_by, on_core, popped}
use Rattle.flow_meaning.specs.Frame.{Frame}
use Rattle.flow_meaning.specs.Orderly.{Rising}
use Rattle.flow_heap_refinement.specs.Representing.{Represents, TaskRepresents, spot_of_actor, waiter_in}

-- a task in memory is that of a process
abbrev pub SameTask : Proc Frame → stack.Task → Task → Type 0
SameTask p t u = TaskRepresents (spot_of_actor p.actors) (λ i. kept_by (thing p.core.entries i)) t u

-- a fire of a cell
abbrev pub fire : ℕ → stack.Task
fire k = task.Fire (cell_id k)

-- the newest task of a heap and of the process that it shows, and both without it
pub record SameTop (r : RawTree) (h : HeapTree) (p : Proc Frame) (t : stack.Task) (ts : List stack.Task) : Type 0 where
  pub top : Task
  pub below : List Task
  pub tasks : p.core.tasks ≡ top ∷ below
  pub same : SameTask p t top
  pub rest : Represents r (record h { tasks = ts }) (popped below p)

-- the heap with another single result or stream at a number, and the process with another cell there
abbrev pub cell_put : ℕ → CellTree Outcome → HeapTree → HeapTree
cell_put k m h = record h { cells = stored.with_thing h.cells k m }

abbrev pub stream_put : ℕ → StreamTree Value → HeapTree → HeapTree
stream_put k m h = record h { streams = stored.with_thing h.streams k m }

abbrev pub put_cell : ℕ → Cell → Core → Core
put_cell k cell c = record c { cells = put c.cells k cell }

abbrev pub without_cell : ℕ → Core → Core
without_cell k c = record c { cells = removed c.cells k }

module _ (r : RawTree) (h : HeapTree) (p : Proc Frame) where
  -- tasks: one more, the newest one less, drops of references and of values
  abbrev pub Pushed : Type 0
  Pushed =
      (t : stack.Task) (u : Task) → Represents r h p → SameTask p t u
      → Represents r (memory.pushed t h) (on_core (pushed u) p)

  abbrev pub Popped : Type 0
  Popped = (t : stack.Task) (ts : List stack.Task) → Represents r h p → h.tasks ≡ t ∷ ts → SameTop r h p t ts

  abbrev pub NoTasks : Type 0
  NoTasks = Represents r h p → h.tasks ≡ [] → p.core.tasks ≡ []

  abbrev pub Dropped : Type 0
  Dropped =
      (rs : List Ref) → Represents r h p
      → Represents r (record h { tasks = memory_drops.drops rs h.tasks }) (on_core (dropping rs) p)

  abbrev pub ValuesDropped : Type 0
  ValuesDropped =
      (vs : List Value) → Represents r h p
      → Represents r (memory_drops.dropping vs h) (on_core (dropping_values (map value_of vs)) p)

  -- cells: a new single result, a new stream
  abbrev pub ResultMade : Type 0
  ResultMade =
      Represents r h p → Rising 0 p.core.made p.core.cells
      → Represents r (with_result (next_cell h) h) (on_core (new_cell (Single None [])) p)

  abbrev pub StreamMade : Type 0
  StreamMade =
      Represents r h p → Rising 0 p.core.made p.core.cells
      → Represents r (with_stream (next_cell h) h) (on_core (new_cell (Stream [] None None)) p)

  -- how many references count is seen in memory alone
  abbrev pub CellCounted : Type 0
  CellCounted =
      (k : ℕ) (m : CellTree Outcome) (n : Counts) → Represents r h p → stored.thing h.cells.things k ≡ Some m
      → Represents r (cell_put k (record m { references = n }) h) p

  abbrev pub StreamCounted : Type 0
  StreamCounted =
      (k : ℕ) (m : StreamTree Value) (n : Counts) → Represents r h p
      → stored.thing h.streams.things k ≡ Some m
      → Represents r (stream_put k (record m { references = n }) h) p

  -- a single result is set, and a stream gets an element or its end; and fires
  abbrev pub CellSet : Type 0
  CellSet =
      (k : ℕ) (m : CellTree Outcome) (o : Outcome) → Represents r h p → stored.thing h.cells.things k ≡ Some m
      → Represents r (memory.pushed (fire k) (cell_put k (record m {
        content =
            Some o;
      }) h)) (on_core (fill k (outcome_of o)) p)

  abbrev pub StreamSent : Type 0
  StreamSent =
      (k : ℕ) (m : StreamTree Value) (v : Value) → Represents r h p → stored.thing h.streams.things k ≡ Some m
      → Represents r (memory.pushed (fire k) (stream_put k (with_item m v) h)) (on_core (fill k (GoodOutcome (value_of v))) p)

  abbrev pub StreamEnded : Type 0
  StreamEnded =
      (k : ℕ) (m : StreamTree Value) (e : ErrorCode) → Represents r h p → stored.thing h.streams.things k ≡ Some m
      → Represents r (memory.pushed (fire k) (stream_put k (record m {
        end =
            Some e;
      }) h)) (on_core (fill k (BadOutcome e.0)) p)

  -- the first element of a stream is taken
  abbrev pub ElementTaken : Type 0
  ElementTaken =
      (k : ℕ) (m : StreamTree Value) (v : Value) (vs : List Value) (c : Cell) → Represents r h p
      → stored.thing h.streams.things k ≡ Some m → m.queue ≡ v ∷ vs → thing p.core.cells k ≡ Some c
      → (taken c ≡ Some (GoodOutcome (value_of v)))
      × Represents r (stream_put k (record m { queue = vs }) h) (on_core (put_cell k (after_taking c)) p)

  -- one more waiter
  abbrev pub CellAwaited : Type 0
  CellAwaited =
      (k : ℕ) (m : CellTree Outcome) (c : Cell) (w : Waiter) → Represents r h p
      → stored.thing h.cells.things k ≡ Some m → thing p.core.cells k ≡ Some c
      → Represents r (cell_put k (record m {
        waiters =
            m.waiters ++ waiter_in (spot_of_actor p.actors) w ∷ [];
      }) h) (on_core (put_cell k (with_waiter c w)) p)

  abbrev pub StreamAwaited : Type 0
  StreamAwaited =
      (k : ℕ) (m : StreamTree Value) (c : Cell) (w : Waiter) → Represents r h p
      → stored.thing h.streams.things k ≡ Some m → m.waiter ≡ None → thing p.core.cells k ≡ Some c
      → Represents r (stream_put k (record m {
        waiter =
            Some (waiter_in (spot_of_actor p.actors) w);
      }) h) (on_core (put_cell k (with_waiter c w)) p)

  -- a cell is gone
  abbrev pub CellGone : Type 0
  CellGone =
      (k : ℕ) (m : CellTree Outcome) → Represents r h p → stored.thing h.cells.things k ≡ Some m
      → stored.IsRising 0 h.cells.things h.cells.greatest → Rising 0 p.core.made p.core.cells
      → Represents r (record h { cells = memory.without h.cells k }) (on_core (without_cell k) p)

  abbrev pub StreamGone : Type 0
  StreamGone =
      (k : ℕ) (m : StreamTree Value) → Represents r h p → stored.thing h.streams.things k ≡ Some m
      → stored.IsRising 0 h.streams.things h.streams.greatest → Rising 0 p.core.made p.core.cells
      → Represents r (record h { streams = memory.without h.streams k }) (on_core (without_cell k) p)
