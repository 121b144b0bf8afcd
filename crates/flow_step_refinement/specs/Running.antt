-- A row of steps of an actor in memory is a row of steps of the class machine, up to one that asks something.
use Rattle.std.specs.Prelude.{◌≡◌, ◌≤◌, ◌⊎◌, ℕ, ◌+◌, ◌^◌, pos, List, length}
use Rattle.std.specs.declared.option.Option.TheVariants.{None, Some}
use Rattle.flow_class.specs.Classes.{RawTree}
use Rattle.flow_class.specs.Code.{fetch}
use Rattle.flow_code.specs.declared.program.Code.{Code}
use Rattle.flow_trace.specs.declared.line.Line.{Line}
use Rattle.flow_numbered.specs.Numbered.{thing}
use Rattle.flow_meaning.specs.Requests.{Supply}
use Rattle.flow_meaning.specs.Process.{Run, Entry, Proc}
use Rattle.flow_meaning.specs.References.{Scan}
use Rattle.flow_meaning.specs.Work.{pushed}
use Rattle.flow_meaning.specs.Step.{silent, step, on_core}
use Rattle.flow_meaning.specs.Class.{classes}
use Rattle.flow_meaning.specs.Frame.{Frame}
use Rattle.flow_steps.specs.declared.frames.ControlPoint.{ControlPoint}
use Rattle.flow_steps.specs.declared.next.Pace.TheVariants.{Off}
use Rattle.flow_steps.specs.declared.process.Process.{Process}
use Rattle.flow_steps.specs.Evaluating.{program_time}
use Rattle.flow_steps.specs.Stepping.{Runs}
use Rattle.flow_operation_refinement.specs.Stepped.{OnlyTells}
use Rattle.flow_operation_refinement.specs.Matching.{Matches}
use Rattle.flow_operation_refinement.specs.Seeing.{IsCodeOf}
use Rattle.flow_step_refinement.specs.Continuing.{MayStep, Silent, Leads, InClass, GoesFurther}
use Rattle.flow_step_refinement.specs.Executing.{MayDoNext, InProgram, Asks}

-- What holds of each process of an event is kept by its steps, and allows the next step of an actor whose
-- task is next.
pub record Allows (r : RawTree) (w : Supply) (holds : Proc Frame → Type 0) : Type 0 where
  pub kept : (p q : Proc Frame) → holds p → step (classes r) w p ≡ Some (silent q) → q.core.halted ≡ None
      → holds q
  pub next : (p : Proc Frame) (i : ℕ) (e : Entry) (f : Frame) → holds (on_core (pushed (Run i)) p)
      → thing p.core.entries i ≡ Some e → thing p.actors i ≡ Some f
      → MayDoNext r w p i e f (fetch f.code f.block f.instr)
  pub few : (p : Proc Frame) (i : ℕ) (e : Entry) (f : Frame) → holds p → thing p.core.entries i ≡ Some e
      → thing p.actors i ≡ Some f
      → length f.code.slots + length f.mem.locals ≤ 2 ^ 32

module _ (r : RawTree) (ls : List Line) (x : Scan) (w : Supply) (holds : Proc Frame → Type 0)
    (code : Code) where
  -- The actor has come to a step that asks something, with its own task the newest of the process.
  pub record AsksAtLast (program : IsCodeOf r code) (i : ℕ) (start : Proc Frame) (m n : Process)
      : Type 0 where
    pub stand : ControlPoint
    pub memory : Process
    pub process : Proc Frame
    pub entry : Entry
    pub frame : Frame
    pub steps : Silent r w start (on_core (pushed (Run i)) process)
    pub leads : Leads code m memory
    pub held : holds (on_core (pushed (Run i)) process)
    pub may : MayStep r ls x stand memory process i entry frame
    pub standing : InProgram r code stand frame
    pub none : memory.asked ≡ None
    pub time : program_time memory.time ≡ pos w.now
    pub asks : Asks code stand memory Off n

  -- Or other tasks come first.
  pub record RanOff (start : Proc Frame) (n : Process) : Type 0 where
    pub after : Proc Frame
    pub steps : Silent r w start after
    pub follows : Matches r ls x n after
    pub told : OnlyTells n.asked

  abbrev pub RunsFollow : Type 0
  RunsFollow =
      (m : Process) (p : Proc Frame) (i : ℕ) (e : Entry) (f : Frame) (s : ControlPoint) (n : Process)
      → (program : IsCodeOf r code)
      → Allows r w holds → holds (on_core (pushed (Run i)) p) → MayStep r ls x s m p i e f
      → InClass code e.class s → m.asked ≡ None → program_time m.time ≡ pos w.now → Runs code s m n
      → RanOff (on_core (pushed (Run i)) p) n ⊎ AsksAtLast program i (on_core (pushed (Run i)) p) m n

  -- so it is after a task with which an actor goes on
  abbrev pub FurtherFollows : Type 0
  FurtherFollows =
      (i number : ℕ) (start : Proc Frame) (m n : Process) → (program : IsCodeOf r code) → Allows r w holds
      → holds start
      → (g : GoesFurther code r ls x w i number start m n) → g.between.asked ≡ None ⊎ (g.pace ≡ Off)
      → program_time g.between.time ≡ pos w.now → RanOff start n ⊎ AsksAtLast program i start g.between n
