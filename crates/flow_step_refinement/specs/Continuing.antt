-- What an actor in memory does by an instruction is a row of steps of the class machine.
use Rattle.std.specs.Prelude.{◌≡◌, ℕ, true, false, List, slice_get}
use Rattle.std.specs.declared.option.Option.{Option}
use Rattle.std.specs.declared.option.Option.TheVariants.{Some}
use Rattle.flow_base.specs.declared.ids.ActorId.{ActorId}
use Rattle.flow_value.specs.declared.value.Value.{Value}
use Rattle.flow_class.specs.Classes.{RawTree}
use Rattle.flow_code.specs.declared.program.Code.{Code}
use Rattle.flow_trace.specs.declared.line.Line.{Line}
use Rattle.flow_frame.specs.declared.held.Held.{Held}
use Rattle.flow_cancel.specs.declared.task.Task.TheVariants as task
use Rattle.flow_meaning.specs.Requests.{Supply}
use Rattle.flow_meaning.specs.Process.{Run, Entry, Proc}
use Rattle.flow_meaning.specs.References.{Scan}
use Rattle.flow_meaning.specs.Work.{pushed}
use Rattle.flow_meaning.specs.Step.{silent, step, on_core}
use Rattle.flow_meaning.specs.Class.{classes}
use Rattle.flow_meaning.specs.Frame.{Frame}
use Rattle.flow_steps.specs.declared.frames.ControlPoint.{ControlPoint}
use Rattle.flow_steps.specs.declared.next.Pace.{Pace}
use Rattle.flow_steps.specs.declared.next.Pace.TheVariants.{On, Off}
use Rattle.flow_steps.specs.declared.process.Process.{Process}
use Rattle.flow_steps.specs.Holding.{on_heap}
use Rattle.flow_steps.specs.Waiting.{KeepsOperand}
use Rattle.flow_steps.specs.Stepping as stepping
use Rattle.flow_steps.specs.Tasks.{TopTaken, bound}
use Rattle.flow_operation_refinement.specs.Stepped.{OnlyTells}
use Rattle.flow_operation_refinement.specs.Matching.{Matches}
use Rattle.flow_operation_refinement.specs.Placing.{RepresentsActor}
use Rattle.flow_operation_refinement.specs.Taking.{PointMatches, AtWait, MayGo}
use Rattle.flow_operation_refinement.specs.Continuing.{MayBeStale}

-- steps of the class machine, one after another, that ask nothing of the world
pub data Silent (r : RawTree) (w : Supply) : Proc Frame → Proc Frame → Type 0 where
  no_more : (p : Proc Frame) → Silent r w p p
  then_on : (p between q : Proc Frame) → step (classes r) w p ≡ Some (silent between) → Silent r w between q
      → Silent r w p q

-- An actor that runs at its wait, with the operands kept so far: its frame in memory says so.
pub record AtOperands (r : RawTree) (ls : List Line) (x : Scan) (s : ControlPoint) (m : Process) (p : Proc Frame)
    (i : ℕ) (e : Entry) (f : Frame)
    : Type 0 where
  pub group : ℕ
  pub stood : RepresentsActor r ls x m p i e f
  pub runs : stood.acts.memory.state ≡ 0
  pub noted : s.noted ≡ true
  pub standing : PointMatches s i f
  pub instruction : s.instruction ≡ f.instr
  pub wait : AtWait s f group
  pub go : MayGo i e p.core
  pub awake : e.suspended ≡ false

-- An actor that takes its next step, with its own task off: where it has no operand its frame in memory
-- may be stale; where that isn't, it is in no state of a wait.
pub data MayStep (r : RawTree) (ls : List Line) (x : Scan) (s : ControlPoint) (m : Process) (p : Proc Frame)
    (i : ℕ) (e : Entry) (f : Frame)
    : Type 0 where
  moves : (st : MayBeStale r ls x s m p i e f) → (s.noted ≡ true → st.stood.acts.memory.state ≡ 0)
      → MayStep r ls x s m p i e f
  chooses : AtOperands r ls x s m p i e f → MayStep r ls x s m p i e f

-- After it the actor goes on at once, where its own task is the newest of the process; or other tasks come
-- first.
pub record GoesAtOnce (r : RawTree) (ls : List Line) (x : Scan) (i class : ℕ) (t : ControlPoint) (n : Process)
    (q : Proc Frame) : Type 0 where
  pub process : Proc Frame
  pub entry : Entry
  pub frame : Frame
  pub runs : q ≡ on_core (pushed (Run i)) process
  pub same : entry.class ≡ class
  pub next : MayStep r ls x t n process i entry frame

abbrev pub Onward : RawTree → List Line → Scan → (actor class : ℕ) → Pace → Process → Proc Frame → Type 0
Onward r ls x i k (On t) n q = GoesAtOnce r ls x i k t n q
Onward r ls x i k Off n q = Matches r ls x n q

-- From a process of the definitions a row of its steps leads to one that memory shows.
pub record GoesBy (r : RawTree) (ls : List Line) (x : Scan) (w : Supply) (i class : ℕ) (start : Proc Frame)
    (pace : Pace) (n : Process)
    : Type 0 where
  pub after : Proc Frame
  pub steps : Silent r w start after
  pub onward : Onward r ls x i class pace n after

-- steps of an actor in memory, one after another, with which it goes on
pub data Leads (code : Code) : Process → Process → Type 0 where
  stays_there : (m : Process) → Leads code m m
  goes_on : (s t : ControlPoint) (m between n : Process) → stepping.StepsOn code s m (On t) between
      → Leads code between n → Leads code m n

-- An actor stands in a block of the class with this number.
pub record InClass (code : Code) (number : ℕ) (s : ControlPoint) : Type 0 where
  pub class : slice_get code.classes.items number ≡ Some s.class.now
  pub block : slice_get s.class.now.blocks.items s.place ≡ Some s.block.now

-- An actor begins its steps in memory with a value in its place, where what that held is left over; or with an
-- operand kept.
pub data Began (m : Process) (pace : Pace) (between : Process) : Type 0 where
  by_value : (t : ControlPoint) (vs : List Value) (i : ℕ) (into : Option ℕ) (v : Value)
      → stepping.OnAfter t vs (on_heap (bound i into v) m) pace between → Began m pace between
  by_operand : (s : ControlPoint) (x : Held) (start : Process) (i : ActorId) → TopTaken (task.Run i) m start
      → KeepsOperand s x start pace between → Began m pace between

-- and the actor's further steps in memory follow
pub record GoesFurther (code : Code) (r : RawTree) (ls : List Line) (x : Scan) (w : Supply) (i class : ℕ)
    (start : Proc Frame) (m n : Process)
    : Type 0 where
  pub pace : Pace
  pub between : Process
  pub began : Began m pace between
  pub goes : GoesBy r ls x w i class start pace between
  pub stands : (t : ControlPoint) → pace ≡ On t → InClass code class t
  pub told : pace ≡ Off → OnlyTells between.asked
  pub further : stepping.GoesOn code pace between n
