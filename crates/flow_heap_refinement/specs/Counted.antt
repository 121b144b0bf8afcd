-- The counts that a heap keeps are the references of the process that it shows.
use Rattle.std.specs.Prelude.{◌≡◌, ℕ, suc, ◌+◌, nat_eq, Bool, true, false, List, [], ◌∷◌, if◌then◌else◌}
use Rattle.std.specs.declared.option.Option.{Option}
use Rattle.std.specs.declared.option.Option.TheVariants.{None, Some}
use Rattle.flow_value.specs.declared.value.Value.{Value}
use Rattle.flow_value.specs.declared.value.Outcome.{Outcome}
use Rattle.flow_numbered.specs.Numbered as stored
use Rattle.flow_cell.specs.declared.counts.Side as memory
use Rattle.flow_cell.specs.declared.counts.Side.TheVariants.{Promise, Future}
use Rattle.flow_cell.specs.Cells.{CellTree, count_of}
use Rattle.flow_stream.specs.Streams.{StreamTree}
use Rattle.flow_cancel.specs.Heap.{HeapTree}
use Rattle.flow_numbered.specs.Numbered.{Numbered, thing}
use Rattle.flow_meaning.specs.Cells.{Side, PromiseSide, FutureSide, Ref, Waiter, Cell, waiters}
use Rattle.flow_meaning.specs.Process.{Entry, Core, Proc}
use Rattle.flow_meaning.specs.References.{Scan, scan_of, reference_count}
use Rattle.flow_meaning.specs.Frame.{Frame, occ_memory}

abbrev pub memory_side : Side → memory.Side
memory_side PromiseSide = Promise
memory_side FutureSide = Future

-- the count that is kept of a side of a cell; none where there is no such cell
abbrev pub count_at : Side → Option (CellTree Outcome) → Option (StreamTree Value) → ℕ
count_at s (Some c) x = count_of (memory_side s) c.references
count_at s None (Some c) = count_of (memory_side s) c.references
count_at s None None = 0

abbrev pub kept_count : Side → ℕ → HeapTree → ℕ
kept_count s k h = count_at s (stored.thing h.cells.things k) (stored.thing h.streams.things k)

-- what the places of all frames hold
abbrev pub frames_hold : Numbered Frame → Scan
frames_hold fs = scan_of (λ s k f. occ_memory s k f.mem) fs

-- the references to a side of a cell in a process of frames
abbrev pub references : Side → ℕ → Proc Frame → ℕ
references s k p = reference_count (frames_hold p.actors) s k p.core

abbrev pub nothing_in_hand : Scan
nothing_in_hand s k = 0

-- Each count that a heap keeps is the number of references in the process that it shows, and of those that a step has in
-- hand besides: that it took out of one place and has yet to put into another.
abbrev pub Counted : (in_hand : Scan) → HeapTree → Proc Frame → Type 0
Counted in_hand h p = (s : Side) (k : ℕ) → kept_count s k h ≡ references s k p + in_hand s k

-- Waiters and callbacks agree: the branches of an actor that wait at a cell, oldest first, are those of its operands there,
-- if it is suspended, and else none.
abbrev pub branches_of : (actor : ℕ) → List Waiter → List ℕ
branches_of i [] = []
branches_of i (w ∷ ws) = if nat_eq w.actor i then w.branch ∷ branches_of i ws else branches_of i ws

abbrev pub branches_at : (cell branch : ℕ) → List Ref → List ℕ
branches_at k b [] = []
branches_at k b (r ∷ rs) = if nat_eq r.1 k then b ∷ branches_at k (suc b) rs else branches_at k (suc b) rs

abbrev pub waiters_at : Option Cell → List Waiter
waiters_at None = []
waiters_at (Some c) = waiters c

abbrev pub waiting_by : (suspended : Bool) → List Ref → List Ref
waiting_by true rs = rs
waiting_by false rs = []

abbrev pub waiting_of : Option Entry → List Ref
waiting_of None = []
waiting_of (Some e) = waiting_by e.suspended e.operands

abbrev pub Agree : Core → Type 0
Agree c =
    (i k : ℕ)
    → branches_of i (waiters_at (thing c.cells k)) ≡ branches_at k 0 (waiting_of (thing c.entries i))
