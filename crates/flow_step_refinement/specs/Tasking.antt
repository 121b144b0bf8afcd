-- Each task, done in memory, is a row of steps of the class machine, or its actor takes its steps.
use Rattle.std.specs.Prelude.{◌≡◌, ℕ, List, ◌∷◌}
use Rattle.std.specs.declared.option.Option.TheVariants.{None}
use Rattle.flow_value.specs.declared.value.Kind.{Kind}
use Rattle.flow_value.specs.declared.value.Outcome.{Outcome}
use Rattle.flow_value.specs.declared.value.Outcome.TheVariants as outcome
use Rattle.flow_value.specs.View.{value_of}
use Rattle.flow_class.specs.Classes.{RawTree}
use Rattle.flow_code.specs.declared.program.Code.{Code}
use Rattle.flow_trace.specs.declared.line.Line.{Line}
use Rattle.flow_cancel.specs.declared.task.Task as stack
use Rattle.flow_cancel.specs.declared.task.Task.TheVariants as task
use Rattle.flow_cancel.specs.Heap.{actor_id}
use Rattle.flow_meaning.specs.Requests.{Spot, Supply}
use Rattle.flow_meaning.specs.Process.{Task, Run, Keep, Entry, Proc}
use Rattle.flow_meaning.specs.Work.{pushed}
use Rattle.flow_meaning.specs.Step.{popped, on_core}
use Rattle.flow_meaning.specs.Frame.{Frame}
use Rattle.flow_heap_refinement.specs.Counted.{nothing_in_hand}
use Rattle.flow_heap_refinement.specs.Rested.{Sorted}
use Rattle.flow_steps.specs.declared.frames.ControlPoint.{ControlPoint}
use Rattle.flow_steps.specs.declared.process.Process.{Process}
use Rattle.flow_steps.specs.Points.{IsAtPoint}
use Rattle.flow_steps.specs.Tasks.{TopTaken, IsDone}
use Rattle.flow_operation_refinement.specs.Matching.{ProcessRepresents, Sound}
use Rattle.flow_operation_refinement.specs.Placing.{Acts}
use Rattle.flow_operation_refinement.specs.Operands.{MayKeep}
use Rattle.flow_operation_refinement.specs.Stepped.{OnlyTells, MayDo, Steps}
use Rattle.flow_step_refinement.specs.Continuing.{AtOperands, GoesFurther}
use Rattle.flow_step_refinement.specs.Giving.{Begins, MayRun, MayBranch, MayStore}

-- what a task that was the newest leads to, when it is off
pub data TaskGoes (code : Code) (r : RawTree) (ls : List Line) (w : Supply) (p : Proc Frame) (m n : Process)
    : Type 0 where
  is_step : Steps r ls w p n → OnlyTells n.asked → TaskGoes code r ls w p m n
  goes_further : (i class : ℕ) → GoesFurther code r ls nothing_in_hand w i class p m n
      → TaskGoes code r ls w p m n
  runs : (i : ℕ) (q : Proc Frame) (e : Entry) (f : Frame) → p ≡ on_core (pushed (Run i)) q
      → Begins r ls m q i e f nothing_in_hand code n → TaskGoes code r ls w p m n

-- an actor that takes its next step: it is free to go on, or it is at its wait with operands
pub data MayGo (code : Code) (r : RawTree) (ls : List Line) (m : Process) (p : Proc Frame) (i : ℕ)
    : Type 0 where
  is_free : (e : Entry) (f : Frame) → (a : Acts r m.heap p i e f) → a.memory.state ≡ 0 → MayRun code m p i e f
      → MayGo code r ls m p i
  has_operands : (e : Entry) (f : Frame)
      → ((s : ControlPoint) → IsAtPoint code.classes.items (actor_id i) m s → AtOperands r ls nothing_in_hand s m p i e f)
      → MayGo code r ls m p i

-- a branch that was taken gets what it took
abbrev pub MayGet : Code → RawTree → List Line → Process → Proc Frame → (actor branch : ℕ) → Outcome → Type 0
MayGet code r ls m p i b (outcome.Value v) =
    (e : Entry) × ((f : Frame) × (Acts r m.heap p i e f × MayBranch code r ls m p i b e f))
MayGet code r ls m p i b (outcome.Error err) = (e : Entry) × ((f : Frame) × Acts r m.heap p i e f)

-- an operand is kept by an actor whose task is next, and is in no state of a wait
pub record MayKeepOne (code : Code) (r : RawTree) (m : Process) (p : Proc Frame) (i cell : ℕ) (u : Task)
    : Type 0 where
  pub rest : Proc Frame
  pub next : p ≡ on_core (pushed (Run i)) rest
  pub entry : Entry
  pub frame : Frame
  pub acts : Acts r m.heap (on_core (pushed (Run i)) rest) i entry frame
  pub state : acts.memory.state ≡ 0
  pub group : ℕ
  pub may : (kd : Kind) (spot : Spot) (s : ControlPoint) (start : Process) → u ≡ Keep i spot (kd, cell)
      → start.heap.frames ≡ m.heap.frames → IsAtPoint code.classes.items (actor_id i) start s
      → MayKeep s rest i group (kd, cell) entry frame

-- What has to hold of a task, and of that of the process, when it is off.
abbrev pub MayGoOn : Code → RawTree → List Line → Process → Proc Frame → stack.Task → Task → Type 0
MayGoOn code r ls m p (task.Run i) u = MayGo code r ls m p i.0
MayGoOn code r ls m p (task.Give i b o) u = MayGet code r ls m p i.0 b o.value
MayGoOn code r ls m p (task.Store i v) u =
    (e : Entry) × ((f : Frame) × (Acts r m.heap p i.0 e f × MayStore code r m p i.0 (value_of v.value) e f))
MayGoOn code r ls m p (task.Keep i n k) u = MayKeepOne code r m p i.0 k.0 u
MayGoOn code r ls m p t u = MayDo code r m p t

pub record MayBeDone (code : Code) (r : RawTree) (ls : List Line) (m : Process) (p : Proc Frame)
    (t : stack.Task) (u : Task) : Type 0 where
  pub sound : Sound p
  pub sorted : Sorted m.heap
  pub may : MayGoOn code r ls m p t u

abbrev pub TaskFollows : RawTree → List Line → Process → Proc Frame → Type 0
TaskFollows r ls m p =
    (code : Code) (w : Supply) (t : stack.Task) (start n : Process) → ProcessRepresents r ls nothing_in_hand m p
    → m.asked ≡ None
    → TopTaken t m start
    → ((below : List Task) (u : Task) → p.core.tasks ≡ u ∷ below → MayBeDone code r ls start (popped below p) t u)
    → IsDone code t start n → TaskGoes code r ls w p start n
