-- When the task of a process that is done goes astray, and when what the world brings to it does.
use Rattle.std.specs.Prelude.{◌≡◌, ◌⊎◌, ℕ, pos, true, false, List, [], ◌∷◌, slice_get, is_some}
use Rattle.std.specs.declared.option.Option.{Option}
use Rattle.std.specs.declared.option.Option.TheVariants.{None, Some}
use Rattle.std.specs.declared.vec.Vec.{Vec}
use Rattle.std.specs.declared.alloc.Global.{Global}
use Rattle.flow_base.specs.declared.ids.ActorId.{ActorId}
use Rattle.flow_base.specs.declared.ids.CellId.{CellId}
use Rattle.flow_base.specs.declared.ids.ProcId.{ProcId}
use Rattle.flow_value.specs.declared.value.Value.{Value}
use Rattle.flow_value.specs.declared.value.Value.TheVariants as value
use Rattle.flow_value.specs.declared.value.Outcome.{Outcome}
use Rattle.flow_value.specs.declared.value.Outcome.TheVariants as outcome
use Rattle.flow_value.specs.declared.value.Kind.{Kind}
use Rattle.flow_value.specs.declared.value.Kind.TheVariants as kind
use Rattle.flow_code.specs.declared.class.Aim.{Aim}
use Rattle.flow_code.specs.declared.class.Branch.{Branch}
use Rattle.flow_code.specs.declared.class.Catcher.{Catcher}
use Rattle.flow_code.specs.declared.class.Class.{Class}
use Rattle.flow_code.specs.declared.class.Effect.{Effect}
use Rattle.flow_code.specs.declared.class.Group.{Group}
use Rattle.flow_code.specs.declared.class.Instruction.{Instruction}
use Rattle.flow_code.specs.declared.class.Instruction.TheVariants as instruction
use Rattle.flow_code.specs.declared.class.Last.TheVariants as last
use Rattle.flow_code.specs.declared.program.Code.{Code}
use Rattle.flow_code.specs.View.{group_numbered}
use Rattle.flow_code.specs.declared.expr.expr.Resolved.{Resolved}
use Rattle.flow_numbered.specs.Numbered.{thing}
use Rattle.flow_cell.specs.declared.counts.Side.TheVariants.{Promise}
use Rattle.flow_cell.specs.declared.waiter.Waiter.{Waiter}
use Rattle.flow_cell.specs.Cells.{CellTree, count_of}
use Rattle.flow_frame.specs.declared.held.Held.{Held}
use Rattle.flow_cancel.specs.declared.actors.Note.{Note}
use Rattle.flow_cancel.specs.declared.task.Task.{Task}
use Rattle.flow_cancel.specs.declared.task.Task.TheVariants as task
use Rattle.flow_cancel.specs.Heap.{HeapTree, has_number, may_finish, finished}
use Rattle.flow_steps.specs.declared.frames.ControlPoint.{ControlPoint}
use Rattle.flow_steps.specs.declared.next.Pace.{Pace}
use Rattle.flow_steps.specs.declared.process.Process.{Process}
use Rattle.flow_steps.specs.Doing.{doing}
use Rattle.flow_steps.specs.Holding.{on_heap, kind_in, outcome_refs}
use Rattle.flow_steps.specs.Delivering.{answered}
use Rattle.flow_steps.specs.Points.{IsAtPoint, GoesTo}
use Rattle.flow_steps.specs.Waiting.{KeepsOperand}
use Rattle.flow_steps.specs.Stepping.{OnAfter}
use Rattle.flow_steps.specs.Tasks.{BranchAt, bound_over, bound, TopTaken, next_waiter, IsDone}
use Rattle.flow_steps.specs.Stuck.{SomeMissing, MayNotSet, MayNotFill, FrameMissing, NoPlace, SomePlaceMissing, BlockMissing, HasNoPoint, AimsStuck, LosesStuck}
use Rattle.flow_steps.specs.StuckWaits.{NoWait, ReadyStuck, KeepsStuck}
use Rattle.flow_steps.specs.StuckCalls.{EnrolsStuck}
use Rattle.flow_steps.specs.StuckSteps.{GoesStuck, RunsNowStuck}

-- An actor stands nowhere, or what it does where it stands goes astray.
pub data StandsStuck (classes : List Class) (i : ActorId) (p : Process) (does : ControlPoint → Type 0) : Type 0 where
  nowhere : HasNoPoint classes i.0 p.heap → StandsStuck classes i p does
  standing : (s : ControlPoint) → IsAtPoint classes i p s → does s → StandsStuck classes i p does

-- Where an actor stands there is no branch of a number.
pub data NoBranchAt (s : ControlPoint) (number : ℕ) : Type 0 where
  not_waiting : NoWait s.block.now → NoBranchAt s number
  no_group_at : (g : ℕ) → s.block.now.last ≡ last.Choose g → group_numbered g s.class.now.groups.items ≡ None → NoBranchAt s number
  not_in_group : (g : ℕ) (x : Group) → s.block.now.last ≡ last.Choose g → group_numbered g s.class.now.groups.items ≡ Some x
      → slice_get x.branches.items number ≡ None → NoBranchAt s number

-- a value is to go into a place, and there is no such place
abbrev pub NoPlaceFor : (actor : ℕ) → Option ℕ → HeapTree → Type 0
NoPlaceFor i None h = ⊥
NoPlaceFor i (Some n) h = NoPlace i n h

-- An actor doesn't get to a branch that was taken, or goes astray there.
pub data BranchStuck (code : Code) (i : ActorId) (number : ℕ) (v : Value) (p : Process) (s : ControlPoint) : Type 0 where
  no_branch_at : NoBranchAt s number → BranchStuck code i number v p s
  no_place_for : (b : Branch) → BranchAt s number b → NoPlaceFor i.0 b.into p.heap → BranchStuck code i number v p s
  no_block_at : (b : Branch) → BranchAt s number b → BlockMissing s.class.now b.block → BranchStuck code i number v p s
  goes_there : (b : Branch) (t : ControlPoint) (pace : Pace) (q : Process) → BranchAt s number b → GoesTo s b.block 0 t
      → OnAfter t (bound_over i.0 b.into v p.heap) (on_heap (bound i.0 b.into v) p) pace q → GoesStuck code pace q
      → BranchStuck code i number v p s

abbrev pub GivenStuck : Code → ActorId → (branch : ℕ) → Outcome → Process → Type 0
GivenStuck code i b (outcome.Value v) p = StandsStuck code.classes.items i p (BranchStuck code i b v p)
GivenStuck code i b (outcome.Error e) p = ⊥

-- an instruction is an effect that aims somewhere, or it is no effect
pub record EffectTo (x : Instruction) (aim : Aim) : Type 0 where
  pub effect : Effect
  pub args : Vec Resolved Global
  pub is : x ≡ instruction.Effect aim effect args

abbrev pub NoEffect : Instruction → Type 0
NoEffect x = (aim : Aim) (e : Effect) (args : Vec Resolved Global) → x ≡ instruction.Effect aim e args → ⊥

-- An actor stands at no effect whose result is to be stored, or at one that aims nowhere.
pub data EffectAimsStuck (code : Code) (i : ActorId) (p : Process) (s : ControlPoint) : Type 0 where
  no_instruction : slice_get s.block.now.body.items s.instruction ≡ None → EffectAimsStuck code i p s
  no_effect_at : (x : Instruction) → slice_get s.block.now.body.items s.instruction ≡ Some x → NoEffect x → EffectAimsStuck code i p s
  aims_nowhere : (x : Instruction) (aim : Aim) → slice_get s.block.now.body.items s.instruction ≡ Some x → EffectTo x aim
      → AimsStuck code.fields i.0 aim p.heap → EffectAimsStuck code i p s

abbrev pub StoredStuck : Code → ActorId → Process → Type 0
StoredStuck code i p = StandsStuck code.classes.items i p (EffectAimsStuck code i p)

-- An operand is to be kept by an actor whose task isn't next, or it goes astray there or after it.
pub data OperandStuck (code : Code) (x : Held) (p : Process) (s : ControlPoint) : Type 0 where
  keeps_stuck : KeepsStuck s x p.heap → OperandStuck code x p s
  goes_after : (pace : Pace) (q : Process) → KeepsOperand s x p pace q → GoesStuck code pace q → OperandStuck code x p s

-- a task isn't the newest
abbrev pub NotNewest : Task → Process → Type 0
NotNewest t p = (q : Process) → TopTaken t p q → ⊥

pub data KeptStuck (code : Code) (i : ActorId) (x : Held) (p : Process) : Type 0 where
  not_next : NotNewest (task.Run i) p → KeptStuck code i x p
  its_next : (q : Process) → TopTaken (task.Run i) p q → StandsStuck code.classes.items i q (OperandStuck code x q)
      → KeptStuck code i x p

-- An error leaves an actor that has no frame, or that hasn't the places of its handler.
pub data HandlesStuck (i : ℕ) (c : Catcher) (h : HeapTree) : Type 0 where
  no_frame_left : FrameMissing i h → HandlesStuck i c h
  no_variable : SomePlaceMissing i c.drops.items h → HandlesStuck i c h
  no_error_place : NoPlaceFor i c.error h → HandlesStuck i c h

abbrev pub LeavesStuck : (actor : ℕ) → Option Catcher → HeapTree → Type 0
LeavesStuck i (Some c) h = HandlesStuck i c h
LeavesStuck i None h = FrameMissing i h

abbrev pub RaisedStuck : Code → ActorId → Process → Type 0
RaisedStuck code i p = StandsStuck code.classes.items i p (λ s. LeavesStuck i.0 s.block.now.catcher p.heap)

-- There is no cell to fire; or its waiter can't take its branch; or, where nobody waits any more, the fire's reference isn't lost.
abbrev pub WaiterStuck : Code → CellId → Waiter → Process → Type 0
WaiterStuck code k w p =
    StandsStuck code.classes.items w.actor p (λ s. ReadyStuck s (record { callback = w.callback; cell = k }) p.heap)

abbrev pub FiresStuckAt : Code → Kind → CellId → Option Waiter → Process → Type 0
FiresStuckAt code kd k None p = LosesStuck kd k.0 p.heap
FiresStuckAt code kd k (Some w) p = WaiterStuck code k w (doing (task.Fire k) p)

pub data FiresStuck (code : Code) (k : CellId) (p : Process) : Type 0 where
  no_cell : kind_in (thing p.heap.cells.things k.0) (thing p.heap.streams.things k.0) ≡ None → FiresStuck code k p
  fires_stuck : (kd : Kind) → kind_in (thing p.heap.cells.things k.0) (thing p.heap.streams.things k.0) ≡ Some kd
      → FiresStuckAt code kd k (next_waiter kd k.0 p.heap) p → FiresStuck code k p

-- The result of an actor can't be set: it isn't there, no promise of it counts, or it is set already.
abbrev pub NoPromise : Option (CellTree Outcome) → Type 0
NoPromise None = Unit {0}
NoPromise (Some c) = count_of Promise c.references ≡ 0

abbrev pub ResultStuck : (cell : ℕ) → HeapTree → Type 0
ResultStuck k h = NoPromise (thing h.cells.things k) ⊎ MayNotSet (thing h.cells.things k)

-- The outcome of an actor can't go to its result: it can't be set, or can't lose the actor's promise.
abbrev pub EndsStuck : Option CellId → HeapTree → Type 0
EndsStuck None h = ⊥
EndsStuck (Some k) h = ResultStuck k.0 h ⊎ LosesStuck kind.Promise k.0 h

-- An actor that is to be closed isn't there, or its frame holds something; or its outcome can't go to its result.
abbrev pub ForgetsStuck : (actor : ℕ) → HeapTree → Type 0
ForgetsStuck i h = (thing h.actors.things i ≡ None) ⊎ (may_finish i h ≡ false)

pub data ClosesStuck (i : ℕ) (h : HeapTree) : Type 0 where
  forgets_stuck : ForgetsStuck i h → ClosesStuck i h
  ends_stuck : (n : Note) → thing h.actors.things i ≡ Some n → EndsStuck n.result (finished i h) → ClosesStuck i h

-- A task that was the newest goes astray.
abbrev pub TaskStuck : Code → Task → Process → Type 0
TaskStuck code (task.Run i) p = RunsNowStuck code i p
TaskStuck code (task.Give i b o) p = GivenStuck code i b o.value p
TaskStuck code (task.Throw i e) p = RaisedStuck code i p
TaskStuck code (task.Catch i e) p = ⊥
TaskStuck code (task.Fire k) p = FiresStuck code k p
TaskStuck code (task.Drop kd k) p = LosesStuck kd k.0 p.heap
TaskStuck code (task.Store i v) p = StoredStuck code i p
TaskStuck code (task.Keep i n k) p = KeptStuck code i (record { callback = n; cell = k }) p
TaskStuck code (task.Close i o) p = ClosesStuck i.0 p.heap

-- The newest task goes astray, or, once it is done and nothing is asked of the world, one after it.
pub data TasksStuck (code : Code) : Process → Type 0 where
  task_now : (p start : Process) (t : Task) → p.spent ≡ false → TopTaken t p start → TaskStuck code t start → TasksStuck code p
  task_later : (p start between : Process) (t : Task) → p.spent ≡ false → TopTaken t p start → IsDone code t start between
      → is_some between.asked ≡ false → TasksStuck code between → TasksStuck code p

-- `main` can't be called: its result is held already, or there is no such class, or no actor of it can be made.
pub data MainStartsStuck (code : Code) (me : ProcId) (h : HeapTree) : Type 0 where
  no_main : code.main ≡ None → MainStartsStuck code me h
  enrols_stuck : (class : ℕ) → code.main ≡ Some class → EnrolsStuck code class (value.Int (pos me.0) ∷ []) h
      → MainStartsStuck code me h

abbrev pub MainStuck : Code → ProcId → HeapTree → Type 0
MainStuck code me h = (is_some h.main ≡ true) ⊎ MainStartsStuck code me h

-- Content that comes from outside holds a reference that is missing, or its cell may not be filled.
abbrev pub BringStuck : Kind → (cell : ℕ) → Outcome → HeapTree → Type 0
BringStuck kd k o h = SomeMissing (outcome_refs o) h ⊎ MayNotFill kd k h

-- an answer comes to no open request, or so
abbrev pub AnswerStuck : (cell : ℕ) → Outcome → HeapTree → Type 0
AnswerStuck k o h = (has_number h.requests k ≡ false) ⊎ BringStuck kind.Promise k o (answered k h)
