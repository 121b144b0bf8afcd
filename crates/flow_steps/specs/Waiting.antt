-- Waits: operands, the branch that is taken, and suspending.
use Rattle.std.specs.Prelude.{◌≡◌, ◌+◌, ℕ, Bool, true, false, nat_lt, List, [], ◌∷◌, ◌++◌, length, is_some, if◌then◌else◌}
use Rattle.std.specs.declared.option.Option.{Option}
use Rattle.std.specs.declared.option.Option.TheVariants.{None, Some}
use Rattle.flow_base.specs.ErrorNumbers.{operation_cancelled, second_waiter}
use Rattle.flow_base.specs.declared.ids.ActorId.{ActorId}
use Rattle.flow_base.specs.declared.ids.CellId.{CellId}
use Rattle.flow_value.specs.declared.value.Value.{Value}
use Rattle.flow_value.specs.declared.value.Outcome.{Outcome}
use Rattle.flow_value.specs.View.{outcome_of}
use Rattle.flow_code.specs.declared.class.Group.{Group}
use Rattle.flow_code.specs.declared.class.Last.TheVariants as last
use Rattle.flow_code.specs.View.{group_numbered}
use Rattle.flow_numbered.specs.Numbered.{thing}
use Rattle.flow_cell.specs.declared.waiter.Waiter.{Waiter}
use Rattle.flow_cell.specs.Cells.{CellTree}
use Rattle.flow_stream.specs.Streams.{StreamTree, ready, head, tail}
use Rattle.flow_frame.specs.declared.held.Held.{Held}
use Rattle.flow_frame.specs.Frames.{FrameTree, with_callback, in_state}
use Rattle.flow_trace.specs.declared.line.Line.TheVariants as line
use Rattle.flow_cancel.specs.declared.actors.Note.{Note}
use Rattle.flow_cancel.specs.declared.task.Task.{Task}
use Rattle.flow_cancel.specs.declared.task.Task.TheVariants as task
use Rattle.flow_cancel.specs.Heap.{HeapTree, pushed}
use Rattle.flow_cancel.specs.Leaving.{waiter_of, withdrawn}
use Rattle.flow_heap_refinement.specs.Changes.{cell_put, stream_put}
use Rattle.flow_heap_refinement.specs.Holds.{hold_all}
use Rattle.flow_steps.specs.declared.frames.ControlPoint.{ControlPoint}
use Rattle.flow_steps.specs.declared.next.Pace.{Pace}
use Rattle.flow_steps.specs.declared.next.Pace.TheVariants.{On, Off}
use Rattle.flow_steps.specs.declared.process.Process.{Process}
use Rattle.flow_steps.specs.Doing.{turned, telling}
use Rattle.flow_steps.specs.Seen.{content_in}
use Rattle.flow_steps.specs.Holding.{on_heap, with_heap, outcome_refs}
use Rattle.flow_steps.specs.Delivering.{head_of}
use Rattle.flow_steps.specs.Points.{with_frame, gone, lost_from}

-- a wait at a cell needn't suspend
abbrev pub ready_in : Option (CellTree Outcome) → Option (StreamTree Value) → Bool
ready_in (Some c) s = is_some c.content
ready_in None (Some s) = ready s.queue s.end
ready_in None None = false

abbrev pub ready_at : (cell : ℕ) → HeapTree → Bool
ready_at k h = ready_in (thing h.cells.things k) (thing h.streams.things k)

-- the operands of an actor as its frame keeps them, and the first of them that is ready
abbrev pub callbacks_in : Option (FrameTree Value) → List Held
callbacks_in None = []
callbacks_in (Some f) = f.callbacks

abbrev pub callbacks_of : (actor : ℕ) → HeapTree → List Held
callbacks_of i h = callbacks_in (thing h.frames.things i)

abbrev pub first_ready : HeapTree → List Held → Option Held
first_ready h [] = None
first_ready h (x ∷ xs) = if ready_at x.cell.0 h then Some x else first_ready h xs

-- one operand more is kept
abbrev pub operand_kept : (actor : ℕ) → Held → HeapTree → HeapTree
operand_kept i x h = with_frame (λ f. with_callback f x) i h

-- An operand waits at its cell; a stream at which somebody waits refuses.
abbrev pub Registered : Type 0
Registered = Bool × HeapTree

abbrev pub stream_awaited : (cell : ℕ) → Waiter → StreamTree Value → Option Waiter → HeapTree → Registered
stream_awaited k w s None h = (true, stream_put k (record s { waiter = Some w }) h)
stream_awaited k w s (Some old) h = (false, h)

abbrev pub awaited : (cell : ℕ) → Waiter → Option (CellTree Outcome) → Option (StreamTree Value) → HeapTree → Registered
awaited k w (Some c) s h = (true, cell_put k (record c { waiters = c.waiters ++ w ∷ [] }) h)
awaited k w None (Some s) h = stream_awaited k w s s.waiter h
awaited k w None None h = (false, h)

abbrev pub register : (actor : ℕ) → Held → HeapTree → Registered
register i x h = awaited x.cell.0 (waiter_of i x) (thing h.cells.things x.cell.0) (thing h.streams.things x.cell.0) h

-- all do, in order, up to the first that is refused
abbrev pub registered_then : (HeapTree → Registered) → Registered → Registered
registered_then others (true, h) = others h
registered_then others (false, h) = (false, h)

abbrev pub register_all : (actor : ℕ) → List Held → HeapTree → Registered
register_all i [] h = (true, h)
register_all i (x ∷ xs) h = registered_then (register_all i xs) (register i x h)

-- what that comes to in a process: whether all wait, and the heap
abbrev pub Registers : Registered → (all : Bool) → Process → Process → Type 0
Registers r all p q = (all ≡ r.0) × (q ≡ with_heap r.1 p)

-- the frame of an actor waits in the state of a group
abbrev pub suspended_at : (actor group : ℕ) → HeapTree → HeapTree
suspended_at i g h = with_frame (in_state g) i h

-- an actor leaves its wait for a task: its operands are dropped, then its locals, and then the task comes
abbrev pub left_for : ControlPoint → Task → HeapTree → HeapTree
left_for s t h =
    gone s.actor.0 s.place (length s.block.now.body.items)
    (withdrawn s.actor.0 (lost_from s.actor.0 s.class.now.slots (pushed t h)))

-- The branch of an actor's wait that has this number through its class.
pub record BranchOf (s : ControlPoint) (callback branch : ℕ) : Type 0 where
  pub number : ℕ
  pub group : Group
  pub waits : s.block.now.last ≡ last.Choose number
  pub of_number : group_numbered number s.class.now.groups.items ≡ Some group
  pub counted : callback ≡ group.first + branch

-- What a branch takes from a cell that is ready: a copy of the outcome, the first element, or else the end.
pub data Takes (k : ℕ) (o : Outcome) (p q : Process) : Type 0 where
  copied : content_in p.heap.cells k ≡ Some (outcome_of o) → q ≡ on_heap (hold_all (outcome_refs o)) p → Takes k o p q
  popped : (s : StreamTree Value) → thing p.heap.cells.things k ≡ None → thing p.heap.streams.things k ≡ Some s
      → head s.queue s.end ≡ head_of o → q ≡ on_heap (stream_put k (record s { queue = tail s.queue })) p → Takes k o p q

-- the task by which a branch gets what it took
abbrev pub IsGive : (actor : ActorId) → (branch : ℕ) → Outcome → Task → Type 0
IsGive i b o (task.Give j c x) = (j ≡ i) × (c ≡ b) × (x.value ≡ o)
IsGive i b o t = ⊥

-- A branch takes what its cell gives, and the actor leaves its wait, with the line; without a turn it doesn't.
pub record BranchTaken (s : ControlPoint) (b : ℕ) (cell : CellId) (p q : Process) : Type 0 where
  pub group : ℕ
  pub outcome : Outcome
  pub task : Task
  pub between : Process
  pub waits : s.block.now.last ≡ last.Choose group
  pub takes : Takes cell.0 outcome p between
  pub gives : IsGive s.actor b outcome task
  pub leaves : q ≡ telling (line.Take s.actor group b) (on_heap (left_for s task) between)

pub data TakesBranch (s : ControlPoint) (b : ℕ) (cell : CellId) (p q : Process) : Type 0 where
  no_turn : nat_lt 0 p.left ≡ false → q ≡ turned p → TakesBranch s b cell p q
  takes_branch : nat_lt 0 p.left ≡ true → BranchTaken s b cell (turned p) q → TakesBranch s b cell p q

-- whether an actor is marked as cancelled
abbrev pub is_marked : Option Note → Bool
is_marked None = false
is_marked (Some n) = n.marked

abbrev pub marked_at : (actor : ℕ) → HeapTree → Bool
marked_at i h = is_marked (thing h.actors.things i)

-- An operand that counts already is kept. A marked actor then leaves its wait and is thrown that it was cancelled; an operand
-- that is ready is taken; otherwise the actor goes on.
pub data KeepsOperand (s : ControlPoint) (x : Held) (p : Process) : Pace → Process → Type 0 where
  kept_marked : (q : Process) → marked_at s.actor.0 p.heap ≡ true
      → q ≡ on_heap (left_for s (task.Throw s.actor (record { 0 = operation_cancelled }))) (on_heap (operand_kept s.actor.0 x) p)
      → KeepsOperand s x p Off q
  kept_unready : (q : Process) → marked_at s.actor.0 p.heap ≡ false → ready_at x.cell.0 p.heap ≡ false
      → q ≡ on_heap (operand_kept s.actor.0 x) p → KeepsOperand s x p (On s) q
  kept_ready : (q : Process) (b : ℕ) → marked_at s.actor.0 p.heap ≡ false → ready_at x.cell.0 p.heap ≡ true → BranchOf s x.callback b
      → TakesBranch s b x.cell (on_heap (operand_kept s.actor.0 x) p) q → KeepsOperand s x p Off q

-- All operands are kept. The first that is ready is taken. Otherwise the actor waits for all of them, with the line, and its
-- locals are dropped; where a stream refuses, that is thrown.
pub data Waits (s : ControlPoint) (group : ℕ) (p q : Process) : Type 0 where
  waits_ready : (x : Held) (b : ℕ) → first_ready p.heap (callbacks_of s.actor.0 p.heap) ≡ Some x → BranchOf s x.callback b
      → TakesBranch s b x.cell p q → Waits s group p q
  waits_refused : (h : HeapTree) → first_ready p.heap (callbacks_of s.actor.0 p.heap) ≡ None
      → register_all s.actor.0 (callbacks_of s.actor.0 p.heap) p.heap ≡ (false, h)
      → q ≡ on_heap (left_for s (task.Throw s.actor (record { 0 = second_waiter }))) (with_heap h p) → Waits s group p q
  waits_suspended : (h : HeapTree) → first_ready p.heap (callbacks_of s.actor.0 p.heap) ≡ None
      → register_all s.actor.0 (callbacks_of s.actor.0 p.heap) p.heap ≡ (true, h)
      → q ≡ telling (line.Wait s.actor group) (on_heap (λ g. suspended_at s.actor.0 group (lost_from s.actor.0 s.class.now.slots g))
      (with_heap h p))
      → Waits s group p q
