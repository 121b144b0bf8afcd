-- What the work on references does to the heap of a process.
use Rattle.std.specs.Prelude.{◌≡◌, ℕ, nat_lt, List, if◌then◌else◌}
use Rattle.std.specs.declared.option.Option.{Option}
use Rattle.std.specs.declared.option.Option.TheVariants.{None, Some}
use Rattle.flow_base.specs.ErrorNumbers.{broken_promise}
use Rattle.flow_base.specs.declared.ids.ActorId.{ActorId}
use Rattle.flow_value.specs.declared.value.Value.{Value}
use Rattle.flow_value.specs.declared.value.Outcome.{Outcome}
use Rattle.flow_value.specs.declared.value.Outcome.TheVariants as outcome
use Rattle.flow_value.specs.declared.value.Kind.{Kind}
use Rattle.flow_value.specs.declared.value.Kind.TheVariants as kind
use Rattle.flow_value.specs.Values.{refs_of, RefValue}
use Rattle.flow_value.specs.View.{value_of, outcome_of}
use Rattle.flow_numbered.specs.Numbered as stored
use Rattle.flow_cell.specs.declared.counts.Side.{Side}
use Rattle.flow_cell.specs.Cells.{CellTree}
use Rattle.flow_stream.specs.Streams.{StreamTree}
use Rattle.flow_trace.specs.declared.line.Line.TheVariants.{Broken}
use Rattle.flow_cancel.specs.declared.task.Dropped.{Dropped}
use Rattle.flow_cancel.specs.declared.task.Dropped.TheVariants as after
use Rattle.flow_cancel.specs.Dropping.{Lost, drops, dropped, cancel_owner}
use Rattle.flow_cancel.specs.declared.task.Task.{Task}
use Rattle.flow_cancel.specs.declared.task.Task.TheVariants as task
use Rattle.flow_cancel.specs.Heap.{HeapTree, cell_id, owner}
use Rattle.flow_meaning.specs.Cells.{Ref}
use Rattle.flow_meaning.specs.References.{refs_in, value_in}
use Rattle.flow_heap_refinement.specs.Holds.{held_cell, held_stream, set_cell, send_stream, filled_in, given}
use Rattle.flow_steps.specs.Doing.{asking, telling, turned, stopped}
use Rattle.flow_steps.specs.declared.call.Call.TheVariants as call
use Rattle.flow_steps.specs.declared.call.Goal.{Goal}
use Rattle.flow_steps.specs.declared.call.Goal.TheVariants as goal
use Rattle.flow_steps.specs.declared.process.Process.{Process}

-- a change of the heap alone
abbrev pub on_heap : (HeapTree → HeapTree) → Process → Process
on_heap f p = record p { heap = f p.heap }

-- a reference to a side of a single result or of a stream counts
abbrev pub cell_holding : Side → (cell : ℕ) → HeapTree → HeapTree
cell_holding s k h = held_cell s k (stored.thing h.cells.things k) h

abbrev pub stream_holding : Side → (cell : ℕ) → HeapTree → HeapTree
stream_holding s k h = held_stream s k (stored.thing h.streams.things k) h

-- the references that a value, or an outcome, holds
abbrev pub value_refs : Value → List Ref
value_refs v = refs_of (value_of v)

abbrev pub outcome_refs : Outcome → List Ref
outcome_refs o = refs_in (value_in (outcome_of o))

-- references are dropped: each becomes a task
abbrev pub refs_dropped : List Ref → HeapTree → HeapTree
refs_dropped rs h = record h { tasks = drops rs h.tasks }

-- the task by which the result of an effect goes where it belongs
abbrev pub IsGiving : Goal → (actor : ActorId) → Value → Task → Type 0
IsGiving goal.Stored i v (task.Store j b) = (j ≡ i) × (b.value ≡ v)
IsGiving (goal.Kept n) i v (task.Keep j m k) = (j ≡ i) × (m ≡ n) × (kind : Kind) × (value_of v ≡ RefValue kind k.0)
IsGiving _ i v t = ⊥

-- the result of an effect is given by its task
pub record Gives (g : Goal) (i : ActorId) (v : Value) (before after : Process) : Type 0 where
  pub task : Task
  pub giving : IsGiving g i v task
  pub given_by : after ≡ on_heap (given i.0 task (value_refs v)) before

-- a single result, or a stream, gets content and fires
abbrev pub result_filled : (cell : ℕ) → Outcome → HeapTree → HeapTree
result_filled k o h = set_cell k o (stored.thing h.cells.things k) h

abbrev pub stream_filled : (cell : ℕ) → Outcome → HeapTree → HeapTree
stream_filled k o h = send_stream k o (stored.thing h.streams.things k) h

-- a cell is broken: where a turn is left it gets the error of a broken promise, and the line is asked for
abbrev pub filled_broken : Kind → (cell : ℕ) → Process → Process
filled_broken kd k p =
    telling (Broken (cell_id k)) (on_heap (filled_in kd k (outcome.Error (record { 0 = broken_promise }))) p)

abbrev pub broken : Kind → (cell : ℕ) → Process → Process
broken kd k p = if nat_lt 0 p.left then filled_broken kd k (turned p) else turned p

-- what the loss of a reference leads to
abbrev pub with_heap : HeapTree → Process → Process
with_heap h p = record p { heap = h }

abbrev pub lost_by : Kind → (cell : ℕ) → Lost → Process → Process
lost_by kd k (h, after.Nothing) p = with_heap h p
lost_by kd k (h, after.Freed) p = with_heap h p
lost_by kd k (h, after.PortFreed) p = asking (call.Unlisten (cell_id k)) (with_heap h p)
lost_by kd k (h, after.Broken) p = broken kd k (with_heap h p)
lost_by kd k (h, after.Cancel a) p = stopped a.0 (with_heap h p)

abbrev pub lost : Kind → (cell : ℕ) → Process → Process
lost kd k p = lost_by kd k (dropped kd k p.heap) p

-- the unfinished and unmarked actor whose result a cell is, if there is one, is cancelled
abbrev pub cancelled_if : Dropped → Process → Process
cancelled_if (after.Cancel a) p = stopped a.0 p
cancelled_if _ p = p

abbrev pub owner_cancelled : (cell : ℕ) → Process → Process
owner_cancelled k p = cancelled_if (cancel_owner p.heap.actors.things (owner k p.heap.actors.things)) p

-- the kind of a reference by which one waits at a cell, and how many futures of a single result count
abbrev pub kind_in : Option (CellTree Outcome) → Option (StreamTree Value) → Option Kind
kind_in (Some c) s = Some kind.Future
kind_in None (Some s) = Some kind.FutureStream
kind_in None None = None

abbrev pub futures_of : Option (CellTree Outcome) → ℕ
futures_of None = 0
futures_of (Some c) = c.references.futures
