-- The tasks by which an actor goes on are steps of the class machine.
use Rattle.std.specs.Prelude.{◌≡◌, ℕ, List, [], ◌∷◌, slice_get}
use Rattle.std.specs.declared.option.Option.TheVariants.{None, Some}
use Rattle.std.specs.declared.vec.Vec.{Vec}
use Rattle.std.specs.declared.alloc.Global.{Global}
use Rattle.flow_base.specs.declared.ids.CellId.{CellId}
use Rattle.flow_base.specs.declared.ids.ErrorCode.{ErrorCode}
use Rattle.flow_tree.specs.declared.ty.Ident.{Ident}
use Rattle.flow_tree.specs.Tree.{ExprTree}
use Rattle.flow_value.specs.declared.value.Value.{Value}
use Rattle.flow_value.specs.declared.value.Kind.{Kind}
use Rattle.flow_value.specs.Values.{ValueTree, GoodOutcome, BadOutcome}
use Rattle.flow_value.specs.View.{value_of}
use Rattle.flow_code.specs.declared.expr.expr.Resolved.{Resolved}
use Rattle.flow_class.specs.Classes.{EffectInstr, ChooseLast, CallbackTree, RawTree}
use Rattle.flow_class.specs.Code.{Body, Last, fetch, callback_at}
use Rattle.flow_code.specs.declared.class.Aim.{Aim}
use Rattle.flow_code.specs.declared.class.Branch.{Branch}
use Rattle.flow_code.specs.declared.class.Effect.{Effect}
use Rattle.flow_code.specs.declared.class.Instruction.TheVariants as instruction
use Rattle.flow_code.specs.declared.program.Code.{Code}
use Rattle.flow_trace.specs.declared.line.Line.{Line}
use Rattle.flow_cancel.specs.declared.task.Task.TheVariants as task
use Rattle.flow_cancel.specs.Heap.{actor_id}
use Rattle.flow_meaning.specs.Requests.{Supply}
use Rattle.flow_meaning.specs.Process.{Run, Give, Store, Keep, Entry, Proc}
use Rattle.flow_meaning.specs.References.{Scan}
use Rattle.flow_meaning.specs.Work.{pushed}
use Rattle.flow_meaning.specs.Step.{silent, step, on_core}
use Rattle.flow_meaning.specs.Class.{classes}
use Rattle.flow_meaning.specs.Frame.{Frame}
use Rattle.flow_heap_refinement.specs.Representing.{wait_spot}
use Rattle.flow_heap_refinement.specs.Acting.{Free}
use Rattle.flow_heap_refinement.specs.FrameChanges.{next_callback}
use Rattle.flow_heap_refinement.specs.Holds.{with_refs}
use Rattle.flow_steps.specs.declared.frames.ControlPoint.{ControlPoint}
use Rattle.flow_steps.specs.declared.process.Process.{Process}
use Rattle.flow_steps.specs.Doing.{doing}
use Rattle.flow_steps.specs.Holding.{value_refs}
use Rattle.flow_steps.specs.Points.{IsAtPoint}
use Rattle.flow_steps.specs.Stepping.{Runs}
use Rattle.flow_steps.specs.Tasks.{RunsNow, BranchAt, ValueGiven, Stored, IsKept}
use Rattle.flow_operation_refinement.specs.Matching.{Matches}
use Rattle.flow_operation_refinement.specs.Placing.{RepresentsActor}
use Rattle.flow_operation_refinement.specs.Taking.{PointMatches}
use Rattle.flow_operation_refinement.specs.Continuing.{SameInto}
use Rattle.flow_operation_refinement.specs.Operands.{MayKeep}
use Rattle.flow_step_refinement.specs.Continuing.{MayStep, AtOperands, InClass, GoesFurther}
use Rattle.flow_step_refinement.specs.Assigning.{AimsAt, CanAssign}

-- An actor whose task is next, without operands and in no state of a wait: where the code has it stand is
-- where its frame does.
pub record MayRun (code : Code) (m : Process) (p : Proc Frame) (i : ℕ) (e : Entry) (f : Frame) : Type 0 where
  pub free : Free i p.core
  pub operands : e.operands ≡ []
  pub stands : (s : ControlPoint) → IsAtPoint code.classes.items (actor_id i) m s
      → PointMatches s i f × (s.instruction ≡ f.instr)

-- An actor that goes on at a branch of its wait, without operands; the branch is coded from a callback.
pub record MayBranch (code : Code) (r : RawTree) (ls : List Line) (m : Process) (p : Proc Frame)
    (i number : ℕ) (e : Entry) (f : Frame)
    : Type 0 where
  pub free : Free i p.core
  pub operands : e.operands ≡ []
  pub group : ℕ
  pub callback : CallbackTree
  pub fetched : fetch f.code f.block f.instr ≡ Last (ChooseLast group)
  pub at : callback_at f.code group number ≡ Some callback
  pub stands : (s : ControlPoint) → IsAtPoint code.classes.items (actor_id i) m s → PointMatches s i f
  pub same : (s : ControlPoint) (b : Branch) → IsAtPoint code.classes.items (actor_id i) m s → BranchAt s number b
      → (b.block ≡ callback.block) × SameInto r ls m p i e f b.into callback.into

-- the result of an effect comes to where the instruction of an actor aims, that has no operand
pub record MayStore (code : Code) (r : RawTree) (m : Process) (p : Proc Frame) (i : ℕ) (v : ValueTree)
    (e : Entry) (f : Frame)
    : Type 0 where
  pub free : Free i p.core
  pub operands : e.operands ≡ []
  pub path : List Ident
  pub from : ExprTree
  pub fetched : fetch f.code f.block f.instr ≡ Body (EffectInstr path from)
  pub can : CanAssign r.records f path v
  pub stands : (s : ControlPoint) → IsAtPoint code.classes.items (actor_id i) m s
      → PointMatches s i f × (s.instruction ≡ f.instr)
  pub aims : (s : ControlPoint) (aim : Aim) (eff : Effect) (args : Vec Resolved Global)
      → IsAtPoint code.classes.items (actor_id i) m s
      → slice_get s.block.now.body.items s.instruction ≡ Some (instruction.Effect aim eff args)
      → AimsAt r.records code f path aim

-- a step by a task, after which other tasks come first
pub record TaskSteps (r : RawTree) (ls : List Line) (x : Scan) (w : Supply) (start : Proc Frame)
    (n : Process) : Type 0 where
  pub after : Proc Frame
  pub steps : step (classes r) w start ≡ Some (silent after)
  pub follows : Matches r ls x n after

module _ (r : RawTree) (ls : List Line) (m : Process) (p : Proc Frame) (i : ℕ) (e : Entry) (f : Frame) where
  -- an actor takes its next step, by its task, which is off
  pub record Begins (x : Scan) (code : Code) (n : Process) : Type 0 where
    pub stand : ControlPoint
    pub may : MayStep r ls x stand m p i e f
    pub stands : InClass code e.class stand
    pub runs : Runs code stand m n

  abbrev pub RunBegins : Type 0
  RunBegins =
      (x : Scan) (code : Code) (n : Process) → (st : RepresentsActor r ls x m p i e f) → st.acts.memory.state ≡ 0
      → MayRun code m p i e f → RunsNow code (actor_id i) m n → Begins x code n

  abbrev pub RunAtWait : Type 0
  RunAtWait =
      (x : Scan) (code : Code) (n : Process)
      → ((s : ControlPoint) → IsAtPoint code.classes.items (actor_id i) m s → AtOperands r ls x s m p i e f)
      → RunsNow code (actor_id i) m n → Begins x code n

  -- it goes on at a branch that was taken, with its value in hand
  abbrev pub GiveGoes : Type 0
  GiveGoes =
      (x : Scan) (code : Code) (w : Supply) (number : ℕ) (v : Value) (n : Process)
      → RepresentsActor r ls (with_refs (value_refs v) x) m p i e f → m.asked ≡ None
      → MayBranch code r ls m p i number e f → ValueGiven code (actor_id i) number v m n
      → GoesFurther code r ls x w i e.class (on_core (pushed (Give i number (GoodOutcome (value_of v)))) p) m n

  -- or is thrown an error
  abbrev pub GiveThrows : Type 0
  GiveThrows =
      (x : Scan) (w : Supply) (number : ℕ) (err : ErrorCode) → RepresentsActor r ls x m p i e f
      → TaskSteps r ls x w (on_core (pushed (Give i number (BadOutcome err.0))) p)
      (doing (task.Throw (actor_id i) err) m)

  -- the result of an effect is stored
  abbrev pub StoreDone : Type 0
  StoreDone =
      (x : Scan) (code : Code) (w : Supply) (v : Value) (n : Process)
      → RepresentsActor r ls (with_refs (value_refs v) x) m p i e f
      → MayStore code r m p i (value_of v) e f → Stored code (actor_id i) v m n
      → TaskSteps r ls x w (on_core (pushed (Store i (value_of v))) p) n

  -- An operand in hand is kept; the task of the actor is the next.
  abbrev pub KeepGoes : Type 0
  KeepGoes =
      (x : Scan) (code : Code) (w : Supply) (group : ℕ) (kd : Kind) (k : CellId) (n : Process)
      → (st : RepresentsActor r ls (with_refs ((kd, k.0) ∷ []) x) m (on_core (pushed (Run i)) p) i e f)
      → st.acts.memory.state ≡ 0 → m.asked ≡ None
      → ((s : ControlPoint) (start : Process) → start.heap.frames ≡ m.heap.frames
      → IsAtPoint code.classes.items (actor_id i) start s → MayKeep s p i group (kd, k.0) e f)
      → IsKept code (actor_id i) (record { callback = next_callback e f; cell = k }) m n
      → GoesFurther code r ls x w i e.class (on_core (pushed (Keep i (wait_spot f) (kd, k.0))) (on_core (pushed (Run i)) p)) m n
