-- A step of an actor in memory by an instruction that evaluates nothing is a step of the class machine.
use Rattle.std.specs.Prelude.{◌≡◌, ℕ, ◌+◌, List, map, length}
use Rattle.std.specs.declared.option.Option.TheVariants.{Some}
use Rattle.flow_base.specs.declared.ids.ErrorCode.{ErrorCode}
use Rattle.flow_eval.specs.declared.stop.Halt.TheVariants as halt
use Rattle.flow_class.specs.Classes.{DropInstr, GotoLast, PassLast, RawTree}
use Rattle.flow_class.specs.Code.{Body, Last, fetch}
use Rattle.flow_trace.specs.declared.line.Line.{Line}
use Rattle.flow_meaning.specs.Requests.{Throws, RunsOut, Supply}
use Rattle.flow_meaning.specs.Evaluating.{asks}
use Rattle.flow_meaning.specs.Process.{Run, Entry, Proc}
use Rattle.flow_meaning.specs.References.{Scan}
use Rattle.flow_meaning.specs.Work.{pushed}
use Rattle.flow_meaning.specs.Step.{view, silent, step, on_core}
use Rattle.flow_meaning.specs.Class.{next_step, class_names, classes}
use Rattle.flow_meaning.specs.Frame.{Frame}
use Rattle.flow_heap_refinement.specs.Acting.{put_frame}
use Rattle.flow_steps.specs.declared.frames.ControlPoint.{ControlPoint}
use Rattle.flow_steps.specs.declared.next.Pace.{Pace}
use Rattle.flow_steps.specs.declared.next.Pace.TheVariants.{On, Off}
use Rattle.flow_steps.specs.declared.process.Process.{Process}
use Rattle.flow_steps.specs.Holding.{on_heap}
use Rattle.flow_steps.specs.Evaluating.{with_left, Halted}
use Rattle.flow_steps.specs.Points.{noted, next_stand, places_taken, places_emptied}
use Rattle.flow_steps.specs.Stepping.{OnAfter, GoesOnAt, Passes}
use Rattle.flow_operation_refinement.specs.Matching.{Matches}
use Rattle.flow_operation_refinement.specs.Placing.{RepresentsActor, HasLocals}
use Rattle.flow_operation_refinement.specs.Continuing.{MayBeStale, ContinuesAt}

-- After a step the actor goes on at once, where its own task is the newest of the process; or other tasks come first.
abbrev pub Carries : RawTree → List Line → Scan → (actor : ℕ) → Entry → Pace → Process → Proc Frame → Type 0
Carries r ls x i e (On t) n q =
    (p : Proc Frame) × ((g : Frame) × ((q ≡ on_core (pushed (Run i)) (put_frame i g p)) × ContinuesAt r ls x t n p i e g))
Carries r ls x i e Off n q = Matches r ls x n q

-- the process with the actor's own task takes a step, after which memory shows it
pub record StepsAs (r : RawTree) (ls : List Line) (x : Scan) (s : Supply) (p : Proc Frame) (i : ℕ) (e : Entry) (pace : Pace) (n : Process)
    : Type 0 where
  pub after : Proc Frame
  pub steps : step (classes r) s (on_core (pushed (Run i)) p) ≡ Some (silent after)
  pub carries : Carries r ls x i e pace n after

module _ (r : RawTree) (ls : List Line) (m : Process) (p : Proc Frame) (i : ℕ) (e : Entry) (f : Frame) where
  -- its frame is told where it stands
  abbrev pub NotedFollows : Type 0
  NotedFollows = (x : Scan) (s : ControlPoint) → MayBeStale r ls x s m p i e f → RepresentsActor r ls x (noted s m) p i e f

  -- An error that evaluation comes to is thrown where it stands; and where evaluation needs a turn that isn't left, the event
  -- is spent.
  abbrev pub ErrorThrown : Type 0
  ErrorThrown =
      (x : Scan) (s : ControlPoint) (w : Supply) (err : ErrorCode) (left : ℕ) (n : Process) → MayBeStale r ls x s m p i e f
      → Halted s (halt.Thrown err) (with_left left m) n
      → next_step (class_names r) (view w i p.core) f ≡ asks left (Throws err.0) f → StepsAs r ls x w p i e Off n

  abbrev pub RanOut : Type 0
  RanOut =
      (x : Scan) (s : ControlPoint) (w : Supply) (n : Process) → MayBeStale r ls x s m p i e f
      → Halted s halt.Spent (with_left 0 m) n → next_step (class_names r) (view w i p.core) f ≡ asks 0 RunsOut f
      → StepsAs r ls x w p i e Off n

  abbrev pub DropStep : Type 0
  DropStep =
      (x : Scan) (s : ControlPoint) (w : Supply) (ns : List ℕ) (pace : Pace) (n : Process)
      → MayBeStale r ls x s m p i e f → HasLocals f ns → fetch f.code f.block f.instr ≡ Body (DropInstr ns)
      → OnAfter (next_stand s) (places_taken i (map (λ k. length f.code.slots + k) ns) m.heap)
      (on_heap (places_emptied i (map (λ k. length f.code.slots + k) ns)) m) pace n
      → StepsAs r ls x w p i e pace n

  abbrev pub GotoStep : Type 0
  GotoStep =
      (x : Scan) (s : ControlPoint) (w : Supply) (b : ℕ) (pace : Pace) (n : Process)
      → MayBeStale r ls x s m p i e f → fetch f.code f.block f.instr ≡ Last (GotoLast b) → GoesOnAt s b m pace n
      → StepsAs r ls x w p i e pace n

  abbrev pub PassStep : Type 0
  PassStep =
      (x : Scan) (s : ControlPoint) (w : Supply) (b : ℕ) (pace : Pace) (n : Process)
      → MayBeStale r ls x s m p i e f → fetch f.code f.block f.instr ≡ Last (PassLast b) → Passes s b m pace n
      → StepsAs r ls x w p i e pace n
