-- An actor that leaves its wait in memory, or takes a branch of it, does what the definitions do.
use Rattle.std.specs.Prelude.{◌≡◌, ℕ, false, List, [], ◌∷◌, length}
use Rattle.std.specs.declared.option.Option.TheVariants.{None, Some}
use Rattle.flow_value.specs.declared.value.Outcome.{Outcome}
use Rattle.flow_value.specs.Values.{OutcomeTree}
use Rattle.flow_value.specs.View.{outcome_of}
use Rattle.flow_class.specs.Classes.{ChooseLast, RawTree}
use Rattle.flow_class.specs.Code.{Last, fetch}
use Rattle.flow_code.specs.declared.class.Group.{Group}
use Rattle.flow_code.specs.View.{group_numbered}
use Rattle.flow_code.specs.declared.class.Last.TheVariants as last
use Rattle.flow_trace.specs.declared.line.Line.{Line}
use Rattle.flow_cancel.specs.declared.task.Task as stack
use Rattle.flow_cancel.specs.Heap.{actor_id}
use Rattle.flow_cancel.specs.Leaving.{withdrawn}
use Rattle.flow_numbered.specs.Numbered.{Numbered, thing, put}
use Rattle.flow_meaning.specs.Cells.{Cell, taken, after_taking}
use Rattle.flow_meaning.specs.Process.{Task, Entry, Core, Proc}
use Rattle.flow_meaning.specs.References.{Scan, refs_in, value_in}
use Rattle.flow_meaning.specs.Orderly.{Rising}
use Rattle.flow_meaning.specs.Work.{running, leave_for, take_branch}
use Rattle.flow_meaning.specs.Step.{proc, on_core}
use Rattle.flow_meaning.specs.Frame.{Frame, lose}
use Rattle.flow_heap_refinement.specs.Representing.{wait_spot}
use Rattle.flow_heap_refinement.specs.Counted.{Agree}
use Rattle.flow_heap_refinement.specs.Changes.{SameTask, put_cell}
use Rattle.flow_heap_refinement.specs.Acting.{NoKeep}
use Rattle.flow_heap_refinement.specs.Leaving.{RightKinds, left_wait}
use Rattle.flow_heap_refinement.specs.Holds.{with_refs, AllThere}
use Rattle.flow_steps.specs.declared.frames.ControlPoint.{ControlPoint}
use Rattle.flow_steps.specs.declared.process.Process.{Process}
use Rattle.flow_steps.specs.Holding.{on_heap, outcome_refs}
use Rattle.flow_steps.specs.Points.{gone}
use Rattle.flow_steps.specs.Waiting.{left_for, Takes, TakesBranch}
use Rattle.flow_operation_refinement.specs.Matching.{ProcessRepresents, Matches, with_task}
use Rattle.flow_operation_refinement.specs.Placing.{RepresentsActor}

-- Where the code has an actor stand is where its frame does: at the same block of the same class.
pub record PointMatches (s : ControlPoint) (i : ℕ) (f : Frame) : Type 0 where
  pub actor : s.actor ≡ actor_id i
  pub slots : s.class.now.slots ≡ length f.code.slots
  pub place : s.place ≡ f.block

-- And there it is at the wait of a group, which ends the block, and whose branches have the same numbers.
pub record AtWait (s : ControlPoint) (f : Frame) (group : ℕ) : Type 0 where
  pub last : s.block.now.last ≡ last.Choose group
  pub fetched : fetch f.code f.block f.instr ≡ Last (ChooseLast group)
  pub end : length s.block.now.body.items ≡ f.instr
  pub first : (g : Group) → group_numbered group s.class.now.groups.items ≡ Some g → g.first ≡ (wait_spot f).first

-- What holds of an actor that leaves its wait, or runs with operands: waiters and operands agree, and no operand is to be
-- kept.
pub record MayGo (i : ℕ) (e : Entry) (c : Core) : Type 0 where
  pub agree : Agree c
  pub cells : Rising 0 c.made c.cells
  pub kinds : RightKinds c.cells e.operands
  pub keeps : NoKeep i c.tasks

-- what a branch takes from a cell is there
pub record Takeable (p : Proc Frame) (k : ℕ) (c : Cell) : Type 0 where
  pub at : thing p.core.cells k ≡ Some c
  pub there : (o : OutcomeTree) → taken c ≡ Some o → AllThere p (refs_in (value_in o))

module _ (r : RawTree) (ls : List Line) (m : Process) (p : Proc Frame) (i : ℕ) (e : Entry) (f : Frame) where
  -- its operands leave all cells and are dropped
  abbrev pub ActorWithdrawn : Type 0
  ActorWithdrawn =
      (x : Scan) → RepresentsActor r ls x m p i e f → MayGo i e p.core
      → RepresentsActor r ls x (on_heap (withdrawn i) m) (on_core (left_wait i e) p) i (running e) f

  -- its frame is told where it stands
  abbrev pub FrameTold : Type 0
  FrameTold =
      (x : Scan) → RepresentsActor r ls x m p i e f → e.operands ≡ [] → e.suspended ≡ false
      → RepresentsActor r ls x (on_heap (gone i f.block f.instr) m) p i e f

  -- it leaves its wait for a task: its operands are dropped, then its locals, and then the task comes
  abbrev pub LeftFor : Type 0
  LeftFor =
      (x : Scan) (s : ControlPoint) (t : stack.Task) (u : Task) → RepresentsActor r ls (with_task u x) m p i e f → PointMatches s i f
      → length s.block.now.body.items ≡ f.instr → SameTask p t u → MayGo i e p.core → NoKeep i (u ∷ [])
      → RepresentsActor r ls x (on_heap (left_for s t) m)
      (proc (leave_for i e (lose f).0 u p.core) (put p.actors i (lose f).1)) i (running e) (lose f).1

  -- A branch takes what its cell gives, where a turn is left, and the actor leaves its wait, with the line. Its entry among
  -- these need not say yet what its operands are.
  abbrev pub BranchFollows : Type 0
  BranchFollows =
      (x : Scan) (s : ControlPoint) (group b k : ℕ) (c : Cell) (n : Process) (es : Numbered Entry) → RepresentsActor r ls x m p i e f
      → put es i (running e) ≡ put p.core.entries i (running e) → m.asked ≡ None → PointMatches s i f → AtWait s f group
      → e.spot.group ≡ group → MayGo i e p.core → Takeable p k c
      → TakesBranch s b (record { 0 = k }) m n
      → Matches r ls x n (proc (take_branch i b k e (lose f).0 (Some c) (record p.core { entries = es })) (put p.actors i (lose f).1))

module _ (r : RawTree) (ls : List Line) (x : Scan) (m : Process) (p : Proc Frame) where
  -- what a branch takes comes to hand
  abbrev pub ContentTaken : Type 0
  ContentTaken =
      (k : ℕ) (o : Outcome) (c : Cell) (n : Process) → ProcessRepresents r ls x m p → Takeable p k c → Takes k o m n
      → (taken c ≡ Some (outcome_of o))
      × ProcessRepresents r ls (with_refs (outcome_refs o) x) n (on_core (put_cell k (after_taking c)) p)
