-- What the tasks of a process do, one after another, up to a step that asks something of the world.
use Rattle.std.specs.Prelude.{◌≡◌, ℕ, pos, true, false, nat_lt, List, [], ◌∷◌, slice_get, is_some, if◌then◌else◌}
use Rattle.std.specs.declared.option.Option.{Option}
use Rattle.std.specs.declared.option.Option.TheVariants.{None, Some}
use Rattle.std.specs.declared.vec.Vec.{Vec}
use Rattle.std.specs.declared.alloc.Global.{Global}
use Rattle.flow_base.specs.declared.ids.ActorId.{ActorId}
use Rattle.flow_base.specs.declared.ids.CellId.{CellId}
use Rattle.flow_base.specs.declared.ids.ErrorCode.{ErrorCode}
use Rattle.flow_base.specs.declared.ids.ProcId.{ProcId}
use Rattle.flow_value.specs.declared.value.Value.{Value}
use Rattle.flow_value.specs.declared.value.Value.TheVariants as value
use Rattle.flow_value.specs.declared.value.Outcome.{Outcome}
use Rattle.flow_value.specs.declared.value.Outcome.TheVariants as outcome
use Rattle.flow_value.specs.declared.value.Kind.{Kind}
use Rattle.flow_value.specs.declared.value.Kind.TheVariants as kind
use Rattle.flow_code.specs.declared.class.Aim.{Aim}
use Rattle.flow_code.specs.declared.class.Branch.{Branch}
use Rattle.flow_code.specs.declared.class.Catcher.{Catcher}
use Rattle.flow_code.specs.declared.class.Effect.{Effect}
use Rattle.flow_code.specs.declared.class.Group.{Group}
use Rattle.flow_code.specs.declared.class.Instruction.TheVariants as instruction
use Rattle.flow_code.specs.declared.class.Last.TheVariants as last
use Rattle.flow_code.specs.declared.program.Code.{Code}
use Rattle.flow_code.specs.View.{group_numbered}
use Rattle.flow_code.specs.declared.expr.expr.Resolved.{Resolved}
use Rattle.flow_numbered.specs.Numbered.{thing}
use Rattle.flow_cell.specs.declared.waiter.Waiter.{Waiter}
use Rattle.flow_cell.specs.Cells.{CellTree}
use Rattle.flow_stream.specs.Streams.{StreamTree}
use Rattle.flow_frame.specs.declared.held.Held.{Held}
use Rattle.flow_trace.specs.declared.line.Line.TheVariants as line
use Rattle.flow_cancel.specs.declared.actors.Note.{Note}
use Rattle.flow_cancel.specs.declared.task.Task.{Task}
use Rattle.flow_cancel.specs.declared.task.Task.TheVariants as task
use Rattle.flow_cancel.specs.Heap.{HeapTree, pushed}
use Rattle.flow_cancel.specs.Dropping.{dropping}
use Rattle.flow_cancel.specs.Leaving.{withdrawn}
use Rattle.flow_heap_refinement.specs.Holds.{hold}
use Rattle.flow_steps.specs.declared.frames.ControlPoint.{ControlPoint}
use Rattle.flow_steps.specs.declared.next.Pace.{Pace}
use Rattle.flow_steps.specs.declared.process.Next.{Next}
use Rattle.flow_steps.specs.declared.process.Next.TheVariants as next
use Rattle.flow_steps.specs.declared.process.Process.{Process}
use Rattle.flow_steps.specs.Doing.{turned, doing, telling}
use Rattle.flow_steps.specs.Holding.{on_heap, kind_in, lost}
use Rattle.flow_steps.specs.Delivering.{closed}
use Rattle.flow_steps.specs.Points.{IsAtPoint, GoesTo, next_stand, noted, gone, place_held, place_put, places_taken, places_emptied, lost_from, referring, values, Assigns}
use Rattle.flow_steps.specs.Waiting.{BranchOf, TakesBranch, KeepsOperand, ready_at}
use Rattle.flow_steps.specs.Acting.{Enrols, StartTold}
use Rattle.flow_steps.specs.Stepping.{OnAfter, GoesOn, Runs, IsClose}

-- An actor takes its next steps from where its frame stands.
pub record RunsNow (code : Code) (i : ActorId) (p q : Process) : Type 0 where
  pub stand : ControlPoint
  pub stands : IsAtPoint code.classes.items i p stand
  pub runs : Runs code stand p q

-- The branch of the wait at which an actor stands.
pub record BranchAt (s : ControlPoint) (number : ℕ) (b : Branch) : Type 0 where
  pub group : ℕ
  pub of : Group
  pub waits : s.block.now.last ≡ last.Choose group
  pub of_number : group_numbered group s.class.now.groups.items ≡ Some of
  pub at : slice_get of.branches.items number ≡ Some b

-- The value of a branch goes into its place: what that held is left over, or the value where there is no place.
abbrev pub bound_over : (actor : ℕ) → Option ℕ → Value → HeapTree → List Value
bound_over i (Some n) v h = referring (place_held i n h)
bound_over i None v h = referring (Some v)

abbrev pub bound : (actor : ℕ) → Option ℕ → Value → HeapTree → HeapTree
bound i (Some n) v h = place_put i n (Some v) h
bound i None v h = h

-- An actor goes on at a branch that was taken, with its value.
pub record ValueGiven (code : Code) (i : ActorId) (number : ℕ) (v : Value) (p q : Process) : Type 0 where
  pub stand : ControlPoint
  pub branch : Branch
  pub goes : ControlPoint
  pub pace : Pace
  pub between : Process
  pub stands : IsAtPoint code.classes.items i p stand
  pub at : BranchAt stand number branch
  pub to : GoesTo stand branch.block 0 goes
  pub after : OnAfter goes (bound_over i.0 branch.into v p.heap) (on_heap (bound i.0 branch.into v) p) pace between
  pub further : GoesOn code pace between q

abbrev pub Given : Code → ActorId → (branch : ℕ) → Outcome → Process → Process → Type 0
Given code i b (outcome.Value v) p q = ValueGiven code i b v p q
Given code i b (outcome.Error e) p q = q ≡ doing (task.Throw i e) p

-- The result of an effect is stored where its instruction aims; what stood there is dropped, and the actor stands behind it.
pub record Stored (code : Code) (i : ActorId) (v : Value) (p q : Process) : Type 0 where
  pub stand : ControlPoint
  pub aim : Aim
  pub old : Option Value
  pub between : Process
  pub stands : IsAtPoint code.classes.items i p stand
  pub effect : Effect
  pub args : Vec Resolved Global
  pub at : slice_get stand.block.now.body.items stand.instruction ≡ Some (instruction.Effect aim effect args)
  pub assigns : Assigns code.fields i aim v p old between
  pub goes : q ≡ noted (next_stand stand) (on_heap (dropping (values old)) between)

-- The newest task is taken off.
abbrev pub popped : List Task → Process → Process
popped ts p = on_heap (λ h. record h { tasks = ts }) p

pub record TopTaken (t : Task) (p q : Process) : Type 0 where
  pub tasks : List Task
  pub top : p.heap.tasks ≡ t ∷ tasks
  pub rest : q ≡ popped tasks p

-- An operand is kept by an actor whose task is next.
pub record IsKept (code : Code) (i : ActorId) (x : Held) (p q : Process) : Type 0 where
  pub start : Process
  pub stand : ControlPoint
  pub pace : Pace
  pub between : Process
  pub next : TopTaken (task.Run i) p start
  pub stands : IsAtPoint code.classes.items i start stand
  pub keeps : KeepsOperand stand x start pace between
  pub further : GoesOn code pace between q

-- An error goes to the handler of the block, or out of the actor: the operands that are kept are dropped in order, and the
-- values that leave the variables; then the handler begins, or the actor is closed.
abbrev pub with_error : (actor : ℕ) → Option ℕ → ErrorCode → HeapTree → HeapTree
with_error i None e h = h
with_error i (Some n) e h = place_put i n (Some (value.Error e)) h

abbrev pub dropped_places : (actor : ℕ) → List ℕ → HeapTree → HeapTree
dropped_places i ns h = dropping (places_taken i ns h) (places_emptied i ns h)

abbrev pub caught : ActorId → Catcher → ErrorCode → HeapTree → HeapTree
caught i c e h = gone i.0 c.block 0 (withdrawn i.0
    (with_error i.0 c.error e (dropped_places i.0 c.drops.items (pushed (task.Catch i e) h))))

abbrev pub failed : ActorId → Task → HeapTree → HeapTree
failed i t h = withdrawn i.0 (lost_from i.0 0 (pushed t h))

pub record FailsBy (i : ActorId) (e : ErrorCode) (p q : Process) : Type 0 where
  pub task : Task
  pub closes : IsClose i (outcome.Error e) task
  pub fails : q ≡ on_heap (failed i task) p

abbrev pub Raises : ActorId → Option Catcher → ErrorCode → Process → Process → Type 0
Raises i (Some c) e p q = q ≡ on_heap (caught i c e) p
Raises i None e p q = FailsBy i e p q

pub record Raised (code : Code) (i : ActorId) (e : ErrorCode) (p q : Process) : Type 0 where
  pub stand : ControlPoint
  pub between : Process
  pub stands : IsAtPoint code.classes.items i p stand
  pub raises : Raises i stand.block.now.catcher e p between
  pub told : q ≡ telling (line.Throw i e) between

-- who waits at a cell, the oldest first
abbrev pub cell_waiter : Option (CellTree Outcome) → Option Waiter
cell_waiter None = None
cell_waiter (Some c) = slice_get c.waiters 0

abbrev pub stream_waiter : Option (StreamTree Value) → Option Waiter
stream_waiter None = None
stream_waiter (Some s) = s.waiter

abbrev pub waiter_by : Kind → (cell : ℕ) → HeapTree → Option Waiter
waiter_by kind.Promise k h = cell_waiter (thing h.cells.things k)
waiter_by kind.Future k h = cell_waiter (thing h.cells.things k)
waiter_by kind.PromiseStream k h = stream_waiter (thing h.streams.things k)
waiter_by kind.FutureStream k h = stream_waiter (thing h.streams.things k)

-- The oldest waiter of a cell that is ready takes its branch, and the fire goes on after it. Where there is none, the fire ends.
abbrev pub next_waiter : Kind → (cell : ℕ) → HeapTree → Option Waiter
next_waiter kd k h = if ready_at k h then waiter_by kd k h else None

pub record WaiterTakes (code : Code) (cell : CellId) (w : Waiter) (p q : Process) : Type 0 where
  pub stand : ControlPoint
  pub branch : ℕ
  pub stands : IsAtPoint code.classes.items w.actor (doing (task.Fire cell) p) stand
  pub at : BranchOf stand w.callback branch
  pub takes : TakesBranch stand branch cell (doing (task.Fire cell) p) q

abbrev pub FiresAt : Code → Kind → CellId → Option Waiter → Process → Process → Type 0
FiresAt code kd k None p q = q ≡ lost kd k.0 p
FiresAt code kd k (Some w) p q = WaiterTakes code k w p q

pub record Fires (code : Code) (k : CellId) (p q : Process) : Type 0 where
  pub kind : Kind
  pub at : kind_in (thing p.heap.cells.things k.0) (thing p.heap.streams.things k.0) ≡ Some kind
  pub fires : FiresAt code kind k (next_waiter kind k.0 p.heap) p q

-- An actor is closed with its outcome.
pub record Closes (i : ActorId) (o : Outcome) (p q : Process) : Type 0 where
  pub note : Note
  pub noted : thing p.heap.actors.things i.0 ≡ Some note
  pub closes : q ≡ closed i o note.result p

-- a reference is dropped, where a turn is left
abbrev pub drops_one : Kind → CellId → Process → Process
drops_one kd k p = if nat_lt 0 p.left then lost kd k.0 (turned p) else turned p

-- A task that was the newest is done.
abbrev pub IsDone : Code → Task → Process → Process → Type 0
IsDone code (task.Run i) p q = RunsNow code i p q
IsDone code (task.Give i b o) p q = Given code i b o.value p q
IsDone code (task.Throw i e) p q = Raised code i e p q
IsDone code (task.Catch i e) p q = q ≡ telling (line.Catch i e) (doing (task.Run i) p)
IsDone code (task.Fire k) p q = Fires code k p q
IsDone code (task.Drop kd k) p q = q ≡ drops_one kd k p
IsDone code (task.Store i v) p q = Stored code i v.value p q
IsDone code (task.Keep i n k) p q = IsKept code i (record { callback = n; cell = k }) p q
IsDone code (task.Close i o) p q = Closes i o.value p q

-- The tasks of a process are done, the newest first, until a step asks something of the world, a turn was wanted in vain, or no
-- task is left.
pub data Tasks (code : Code) : Process → Next → Process → Type 0 where
  all_spent : (p : Process) → p.spent ≡ true → Tasks code p next.Spent p
  no_task : (p : Process) → p.spent ≡ false → p.heap.tasks ≡ [] → Tasks code p next.Rested p
  task_asks : (p start q : Process) (t : Task) → p.spent ≡ false → TopTaken t p start → IsDone code t start q
      → is_some q.asked ≡ true → Tasks code p next.Asks q
  task_done : (p start between q : Process) (t : Task) (n : Next) → p.spent ≡ false → TopTaken t p start
      → IsDone code t start between → is_some between.asked ≡ false → Tasks code between n q → Tasks code p n q

-- `main` is called with the process's number, where a turn is left: its result is held from the moment that its cell is made.
pub record MainStarts (code : Code) (me : ProcId) (p q : Process) : Type 0 where
  pub class : ℕ
  pub actor : ActorId
  pub cell : CellId
  pub between : Process
  pub main : code.main ≡ Some class
  pub enrols : Enrols code class (value.Int (pos me.0) ∷ []) actor cell p between
  pub starts : StartTold code class actor
      (doing (task.Run actor) (on_heap (λ h. record (hold kind.Future cell.0 h) { main = Some cell }) between)) q

pub data MainCalled (code : Code) (me : ProcId) (p q : Process) : Type 0 where
  main_waits : nat_lt 0 p.left ≡ false → q ≡ turned p → MainCalled code me p q
  main_starts : nat_lt 0 p.left ≡ true → MainStarts code me (turned p) q → MainCalled code me p q
