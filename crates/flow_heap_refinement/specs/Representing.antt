-- Which process of the definitions a heap in memory shows.
use Rattle.std.specs.Prelude.{◌≡◌, ℕ, suc, ◌+◌, true, false, List, [], ◌∷◌, ◌++◌, map, length, slice_get}
use Rattle.std.specs.Option.{option_map}
use Rattle.std.specs.declared.option.Option.{Option}
use Rattle.std.specs.declared.option.Option.TheVariants.{None, Some}
use Rattle.flow_base.specs.declared.ids.CellId.{CellId}
use Rattle.flow_base.specs.declared.ids.ErrorCode.{ErrorCode}
use Rattle.flow_value.specs.declared.value.Kind.{Kind}
use Rattle.flow_value.specs.declared.value.Value.{Value}
use Rattle.flow_value.specs.declared.value.Outcome.{Outcome}
use Rattle.flow_value.specs.View.{value_of, outcome_of}
use Rattle.flow_class.specs.Classes.{ChooseLast, ClassTree, RawTree}
use Rattle.flow_class.specs.Code.{Fetched, Last, fetch}
use Rattle.flow_numbered.specs.Numbered as stored
use Rattle.flow_cell.specs.declared.waiter.Waiter as memory
use Rattle.flow_cell.specs.Cells.{CellTree}
use Rattle.flow_stream.specs.Streams.{StreamTree}
use Rattle.flow_frame.specs.declared.held.Held.{Held}
use Rattle.flow_frame.specs.Frames.{FrameTree, all_empty}
use Rattle.flow_cancel.specs.declared.actors.Note.{Note}
use Rattle.flow_cancel.specs.declared.task.Task as stack
use Rattle.flow_cancel.specs.declared.task.Task.TheVariants as task
use Rattle.flow_cancel.specs.Heap.{HeapTree, actor_id, cell_id, has_number, next_cell, next_actor}
use Rattle.flow_cancel.specs.Leaving.{waits}
use Rattle.flow_numbered.specs.Numbered.{Numbered, thing}
use Rattle.flow_meaning.specs.Cells.{Ref, Waiter, Cell, Single, Stream, is_some}
use Rattle.flow_meaning.specs.Requests.{Spot}
use Rattle.flow_meaning.specs.Process.{Task, Run, Give, Throw, Catch, Store, Keep, Close, Fire, Drop, Entry, Proc}
use Rattle.flow_meaning.specs.Dropping.{port_of}
use Rattle.flow_meaning.specs.Step.{kept_by}
use Rattle.flow_meaning.specs.Frame.{Frame, spot_of, over}
use Rattle.flow_meaning.specs.Views.{no_spot, spot_at}

-- The numbers that stand for cells and errors in memory.
abbrev pub cell_number : CellId → ℕ
cell_number k = k.0

abbrev pub error_number : ErrorCode → ℕ
error_number e = e.0

-- The wait at which a frame stands, if it stands at one. Memory numbers a branch through all waits of its class, and a
-- process within its wait, whose first branch has this number in the class.
abbrev pub spot_by : ClassTree → Fetched → Spot
spot_by c (Last (ChooseLast g)) = spot_of c g
spot_by c _ = no_spot

abbrev pub wait_spot : Frame → Spot
wait_spot f = spot_by f.code (fetch f.code f.block f.instr)

abbrev pub spot_of_actor : Numbered Frame → (actor : ℕ) → Spot
spot_of_actor fs i = spot_at wait_spot (thing fs i)

abbrev pub waiter_in : (spots : ℕ → Spot) → Waiter → memory.Waiter
waiter_in spots w = record { actor = actor_id w.actor; callback = (spots w.actor).first + w.branch }

-- the operands of a wait as callbacks in memory, the first with this number
abbrev pub held_from : (callback : ℕ) → List Ref → List Held
held_from n [] = []
held_from n (r ∷ rs) = record { callback = n; cell = cell_id r.1 } ∷ held_from (suc n) rs

-- What stands at a number: in memory a single result or a stream, in the process a cell. How many references count is seen
-- in memory alone.
abbrev pub CellRepresents : (spots : ℕ → Spot) → Option (CellTree Outcome) → Option (StreamTree Value)
    → Option Cell → Type 0
CellRepresents spots None None None = Unit {0}
CellRepresents spots (Some m) None (Some (Single content ws)) =
    (content ≡ option_map outcome_of m.content) × (m.waiters ≡ map (waiter_in spots) ws)
CellRepresents spots None (Some m) (Some (Stream queue end w)) =
    (queue ≡ map value_of m.queue) × (end ≡ option_map error_number m.end)
    × (m.waiter ≡ option_map (waiter_in spots) w)
CellRepresents spots _ _ _ = ⊥

-- Where a frame stands: in memory at a block and an instruction, or, with a state other than 0, at the wait of that group.
pub data Position (m : FrameTree Value) (f : Frame) : Type 0 where
  here : m.state ≡ 0 → m.block ≡ f.block → m.instruction ≡ f.instr → Position m f
  at_wait : (g : ℕ) → m.state ≡ suc g → m.state ≡ (wait_spot f).group → Position m f

-- The frame of an actor in memory, what the process keeps of the actor, and its frame there: the class is the same, and so
-- are the places, the locals behind the slots, the position, and the operands of a wait.
pub record LiveFrameRepresents (r : RawTree) (m : FrameTree Value) (e : Entry) (f : Frame) : Type 0 where
  pub code : slice_get r.classes m.class ≡ Some f.code
  pub places : map (option_map value_of) m.places ≡ f.mem.slots ++ f.mem.locals
  pub slots : length f.mem.slots ≡ length f.code.slots
  pub position : Position m f
  pub callbacks : m.callbacks ≡ held_from (wait_spot f).first e.operands
  pub suspended : waits m.state m.callbacks ≡ e.suspended
  pub spot : e.suspended ≡ true → e.spot ≡ wait_spot f

-- an actor that is over, and only has to be closed: its frame holds nothing
pub record Ended (m : FrameTree Value) (e : Entry) (f : Frame) : Type 0 where
  pub frame : f ≡ over
  pub places : all_empty m.places ≡ true
  pub callbacks : m.callbacks ≡ []
  pub operands : e.operands ≡ []
  pub suspended : e.suspended ≡ false

pub data FrameRepresents (r : RawTree) (m : FrameTree Value) (e : Entry) (f : Frame) : Type 0 where
  stands : LiveFrameRepresents r m e f → FrameRepresents r m e f
  ended : Ended m e f → FrameRepresents r m e f

-- an unfinished actor: what memory notes of it and its frame, and what the process keeps of it and its frame there
pub record OneActor (r : RawTree) (n : Note) (m : FrameTree Value) (e : Entry) (f : Frame) : Type 0 where
  pub class : e.class ≡ m.class
  pub result : e.result ≡ option_map cell_number n.result
  pub marked : e.marked ≡ n.marked
  pub frame : FrameRepresents r m e f

-- What stands at an actor's number: nothing, or all four.
pub record Somebody (r : RawTree) (n : Option Note) (m : Option (FrameTree Value)) (e : Option Entry) (f : Option Frame) : Type 0 where
  pub note : Note
  pub memory : FrameTree Value
  pub entry : Entry
  pub frame : Frame
  pub noted : n ≡ Some note
  pub framed : m ≡ Some memory
  pub entered : e ≡ Some entry
  pub acting : f ≡ Some frame
  pub same : OneActor r note memory entry frame

pub data ActorRepresents (r : RawTree) (n : Option Note) (m : Option (FrameTree Value)) (e : Option Entry) (f : Option Frame) : Type 0 where
  nobody : n ≡ None → m ≡ None → e ≡ None → f ≡ None → ActorRepresents r n m e f
  somebody : Somebody r n m e f → ActorRepresents r n m e f

-- A task in memory and one of the process, with the wait at which each actor stands and how many operands of it are kept: an
-- operand that is to be kept is the next one of that wait.
abbrev pub TaskRepresents : (spots : ℕ → Spot) (kept : ℕ → ℕ) → stack.Task → Task → Type 0
TaskRepresents spots kept (task.Run a) u = u ≡ Run a.0
TaskRepresents spots kept (task.Give a b o) u = u ≡ Give a.0 b (outcome_of o.value)
TaskRepresents spots kept (task.Throw a e) u = u ≡ Throw a.0 e.0
TaskRepresents spots kept (task.Catch a e) u = u ≡ Catch a.0 e.0
TaskRepresents spots kept (task.Fire k) u = u ≡ Fire k.0
TaskRepresents spots kept (task.Drop kind k) u = u ≡ Drop kind k.0
TaskRepresents spots kept (task.Store a v) u = u ≡ Store a.0 (value_of v.value)
TaskRepresents spots kept (task.Keep a n k) u =
    (kind : Kind) × (n ≡ (spots a.0).first + kept a.0) × (u ≡ Keep a.0 (spots a.0) (kind, k.0))
TaskRepresents spots kept (task.Close a o) u = u ≡ Close a.0 (outcome_of o.value)

abbrev pub TasksRepresent : (spots : ℕ → Spot) (kept : ℕ → ℕ) → List stack.Task → List Task → Type 0
TasksRepresent spots kept [] [] = Unit {0}
TasksRepresent spots kept [] (u ∷ us) = ⊥
TasksRepresent spots kept (t ∷ ts) [] = ⊥
TasksRepresent spots kept (t ∷ ts) (u ∷ us) = TaskRepresents spots kept t u × TasksRepresent spots kept ts us

-- A heap shows a process of frames: at each number the same cell and the same actor, the same tasks, the same numbers given
-- so far, the same hold on the result of `main`, the same streams of ports and open requests. The lines of the event, its
-- turns, and which port a stream is that of, stand in the process alone.
pub record Represents (r : RawTree) (h : HeapTree) (p : Proc Frame) : Type 0 where
  pub cells : (k : ℕ)
      → CellRepresents (spot_of_actor p.actors) (stored.thing h.cells.things k) (stored.thing h.streams.things k) (thing p.core.cells k)
  pub actors : (i : ℕ)
      → ActorRepresents r (stored.thing h.actors.things i) (stored.thing h.frames.things i) (thing p.core.entries i) (thing p.actors i)
  pub tasks : TasksRepresent (spot_of_actor p.actors) (λ i. kept_by (thing p.core.entries i)) h.tasks p.core.tasks
  pub made : next_cell h ≡ suc p.core.made
  pub started : next_actor h ≡ suc p.core.started
  pub main : p.core.main ≡ option_map cell_number h.main
  pub ports : (k : ℕ) → has_number h.ports k ≡ is_some (port_of k p.core.ports)
  pub requests : p.core.requests ≡ h.requests
