-- An actor leaves its wait, and is cancelled.
use Rattle.std.specs.Prelude.{ℕ, suc, zero, nat_eq, Bool, true, false, List, [], ◌∷◌, if◌then◌else◌}
use Rattle.std.specs.declared.option.Option.{Option}
use Rattle.std.specs.declared.option.Option.TheVariants.{None, Some}
use Rattle.flow_base.specs.ErrorNumbers.{operation_cancelled}
use Rattle.flow_value.specs.declared.value.Kind.{Kind}
use Rattle.flow_value.specs.declared.value.Kind.TheVariants as kind
use Rattle.flow_value.specs.declared.value.Value.{Value}
use Rattle.flow_value.specs.declared.value.Outcome.{Outcome}
use Rattle.flow_numbered.specs.Numbered.{Numbered, Store, thing, with_thing}
use Rattle.flow_cell.specs.declared.waiter.Waiter.{Waiter}
use Rattle.flow_cell.specs.Cells.{CellTree}
use Rattle.flow_cell.specs.Waiting.{same_waiter, has_waiter, without_newest}
use Rattle.flow_stream.specs.Streams.{StreamTree}
use Rattle.flow_frame.specs.declared.held.Held.{Held}
use Rattle.flow_frame.specs.Frames.{FrameTree}
use Rattle.flow_cancel.specs.declared.actors.Note.{Note}
use Rattle.flow_cancel.specs.declared.task.Task.TheVariants.{Drop, Throw}
use Rattle.flow_cancel.specs.Heap.{HeapTree, actor_id, pushed}

-- a waiter leaves a cell or a stream, if it waits there
abbrev pub is_waiter : Waiter → Option Waiter → Bool
is_waiter w None = false
is_waiter w (Some v) = same_waiter v w

abbrev pub leave_stream_at : ℕ → Waiter → Option (StreamTree Value) → Store (StreamTree Value) → Store (StreamTree Value)
leave_stream_at k w None ss = ss
leave_stream_at k w (Some s) ss = if is_waiter w s.waiter then with_thing ss k (record s { waiter = None }) else ss

abbrev pub left_cells : ℕ → Waiter → CellTree Outcome → Store (CellTree Outcome) → Store (CellTree Outcome)
left_cells k w c cs = if has_waiter c.waiters w then with_thing cs k (record c { waiters = without_newest c.waiters w }) else cs

abbrev pub leave_cell_at : ℕ → Waiter → Option (CellTree Outcome) → HeapTree → HeapTree
leave_cell_at k w None h = record h { streams = leave_stream_at k w (thing h.streams.things k) h.streams }
leave_cell_at k w (Some c) h = record h { cells = left_cells k w c h.cells }

-- the kind of a reference to wait at a cell: that to a single result, or to a stream
abbrev pub kind_at : Option (CellTree Outcome) → Kind
kind_at None = kind.FutureStream
kind_at (Some c) = kind.Future

abbrev pub waiter_of : (actor : ℕ) → Held → Waiter
waiter_of i x = record { actor = actor_id i; callback = x.callback }

-- a callback of an actor leaves its cell, and its reference is dropped
abbrev pub leave_one : (actor : ℕ) → Held → HeapTree → HeapTree
leave_one i x h =
    pushed (Drop (kind_at (thing h.cells.things x.cell.0)) x.cell)
    (leave_cell_at x.cell.0 (waiter_of i x) (thing h.cells.things x.cell.0) h)

-- all of them do, and the drop of the first comes on top
abbrev pub leave_all : (actor : ℕ) → List Held → HeapTree → HeapTree
leave_all i [] h = h
leave_all i (x ∷ xs) h = leave_one i x (leave_all i xs h)

-- the callbacks of an actor leave its frame, and then all cells
abbrev pub without_callbacks : ℕ → FrameTree Value → HeapTree → HeapTree
without_callbacks i f h = record h { frames = with_thing h.frames i (record f { callbacks = [] }) }

abbrev pub withdrawn_from : ℕ → Option (FrameTree Value) → HeapTree → HeapTree
withdrawn_from i None h = h
withdrawn_from i (Some f) h = leave_all i f.callbacks (without_callbacks i f h)

abbrev pub withdrawn : (actor : ℕ) → HeapTree → HeapTree
withdrawn i h = withdrawn_from i (thing h.frames.things i) h

-- an actor is suspended: its state isn't 0, and it has a callback
abbrev pub waits : (state : ℕ) → List Held → Bool
waits zero xs = false
waits (suc n) [] = false
waits (suc n) (x ∷ xs) = true

abbrev pub suspended_in : Option (FrameTree Value) → Bool
suspended_in None = false
suspended_in (Some f) = waits f.state f.callbacks

abbrev pub suspended : (actor : ℕ) → HeapTree → Bool
suspended i h = suspended_in (thing h.frames.things i)

-- An actor is marked as cancelled. Where it is suspended, it leaves its wait, and is thrown the error of that, under the
-- drops.
abbrev pub marked_in : (actor : ℕ) → Option Note → Store Note → Store Note
marked_in i None s = s
marked_in i (Some n) s = with_thing s i (record n { marked = true })

abbrev pub marked : (actor : ℕ) → HeapTree → HeapTree
marked i h = record h { actors = marked_in i (thing h.actors.things i) h.actors }

abbrev pub cancelled_by : (suspended : Bool) → (actor : ℕ) → HeapTree → HeapTree
cancelled_by false i h = h
cancelled_by true i h = withdrawn i (pushed (Throw (actor_id i) (record { 0 = operation_cancelled })) h)

abbrev pub cancelled : (actor : ℕ) → HeapTree → HeapTree
cancelled i h = cancelled_by (suspended i h) i (marked i h)
