-- A step of an actor in memory at its wait is a step of the class machine, or two.
use Rattle.std.specs.Prelude.{◌≡◌, ℕ, suc, true, List, length}
use Rattle.std.specs.declared.option.Option.TheVariants.{None, Some}
use Rattle.flow_value.specs.declared.value.Kind.{Kind}
use Rattle.flow_value.specs.Values.{ValueTree, RefValue}
use Rattle.flow_value.specs.View.{value_of}
use Rattle.flow_eval.specs.Eval.{Res, Done}
use Rattle.flow_class.specs.Classes.{CallbackTree, RawTree}
use Rattle.flow_class.specs.Code.{callback_at}
use Rattle.flow_trace.specs.declared.line.Line.{Line}
use Rattle.flow_meaning.specs.Requests.{Supply}
use Rattle.flow_meaning.specs.Cells.{Ref, Cell}
use Rattle.flow_meaning.specs.Evaluating.{effect_in, value}
use Rattle.flow_meaning.specs.Process.{Run, Entry, Proc}
use Rattle.flow_meaning.specs.References.{Scan}
use Rattle.flow_meaning.specs.Work.{pushed}
use Rattle.flow_meaning.specs.Step.{view, on_core}
use Rattle.flow_meaning.specs.Class.{class_names}
use Rattle.flow_meaning.specs.Frame.{Frame, look}
use Rattle.flow_heap_refinement.specs.Leaving.{wait_kind}
use Rattle.flow_heap_refinement.specs.FrameChanges.{next_callback}
use Rattle.flow_heap_refinement.specs.Holds.{There}
use Rattle.flow_steps.specs.declared.frames.ControlPoint.{ControlPoint}
use Rattle.flow_steps.specs.declared.next.Pace.{Pace}
use Rattle.flow_steps.specs.declared.next.Pace.TheVariants.{Off}
use Rattle.flow_steps.specs.declared.process.Process.{Process}
use Rattle.flow_steps.specs.Evaluating.{Evaluates}
use Rattle.flow_steps.specs.Points.{noted, noted_stand}
use Rattle.flow_steps.specs.Stepping.{OperandKept}
use Rattle.flow_steps.specs.Waiting.{Waits}
use Rattle.flow_operation_refinement.specs.Placing.{RepresentsActor}
use Rattle.flow_operation_refinement.specs.Taking.{AtWait, MayGo, Takeable}
use Rattle.flow_operation_refinement.specs.Continuing.{MayBeStale}
use Rattle.flow_operation_refinement.specs.Waiting.{MayAwait}
use Rattle.flow_step_refinement.specs.Continuing.{AtOperands, GoesBy}

-- a reference by which one waits at its cell, and what a branch takes from that is there
pub record CanWaitAt (p : Proc Frame) (q : Ref) : Type 0 where
  pub cell : Cell
  pub takeable : Takeable p q.1 cell
  pub kind : q.0 ≡ wait_kind (Some cell)
  pub there : There p q

abbrev pub GivesOperand : Proc Frame → Res ValueTree → Type 0
GivesOperand p comes_to = (kd : Kind) (k left : ℕ) → comes_to ≡ Done (RefValue kd k) left
    → CanWaitAt p (kd, k)

module _ (r : RawTree) (ls : List Line) (m : Process) (p : Proc Frame) (i : ℕ) (e : Entry) (f : Frame) where
  -- an actor comes to its wait: its frame is told
  abbrev pub ChoiceBegins : Type 0
  ChoiceBegins =
      (x : Scan) (s : ControlPoint) (group : ℕ) → (st : MayBeStale r ls x s m p i e f) → AtWait s f group
      → MayGo i e p.core
      → (s.noted ≡ true → st.stood.acts.memory.state ≡ 0) → AtOperands r ls x (noted_stand s)
      (noted s m) p i e f

  -- The next operand by its value: in the class machine it is asked for by one step, and kept by the next.
  abbrev pub OperandStep : Type 0
  OperandStep =
      (x : Scan) (s : ControlPoint) (w : Supply) (b : CallbackTree) (comes_to : Res ValueTree) (pace : Pace)
      (n : Process)
      → (at : AtOperands r ls x s m p i e f) → m.asked ≡ None
      → callback_at f.code at.group (length e.operands) ≡ Some b
      → effect_in (class_names r) b.operand ≡ None
      → comes_to ≡ value (class_names r) (view w i p.core) (look f.mem) b.operand → GivesOperand p comes_to
      → Evaluates s value_of comes_to m (OperandKept s (next_callback e f)) pace n
      → GoesBy r ls x w i e.class (on_core (pushed (Run i)) p) pace n

  -- all operands are kept: one that is ready is taken, or the actor waits
  abbrev pub WaitStep : Type 0
  WaitStep =
      (x : Scan) (s : ControlPoint) (w : Supply) (group : ℕ) (n : Process) → RepresentsActor r ls x m p i e f → m.asked ≡ None
      → MayAwait s p i group e f → callback_at f.code (suc group) (length e.operands) ≡ None
      → Waits s (suc group) m n
      → GoesBy r ls x w i e.class (on_core (pushed (Run i)) p) Off n
