-- What an actor does in memory with what evaluation comes to is a step of the class machine.
use Rattle.std.specs.Prelude.{◌≡◌, ℕ, List}
use Rattle.flow_value.specs.Values.{ValueTree}
use Rattle.flow_value.specs.View.{value_of}
use Rattle.flow_tree.specs.Tree.{ExprTree}
use Rattle.flow_eval.specs.Eval.{Res, Done}
use Rattle.flow_class.specs.Classes.{ThrowLast, RawTree}
use Rattle.flow_class.specs.Code.{Last, fetch}
use Rattle.flow_trace.specs.declared.line.Line.{Line}
use Rattle.flow_meaning.specs.Requests.{Supply}
use Rattle.flow_meaning.specs.Evaluating.{value}
use Rattle.flow_meaning.specs.Process.{Entry, Proc}
use Rattle.flow_meaning.specs.References.{Scan}
use Rattle.flow_meaning.specs.Step.{view}
use Rattle.flow_meaning.specs.Class.{class_names}
use Rattle.flow_meaning.specs.Frame.{Frame, look}
use Rattle.flow_steps.specs.declared.frames.ControlPoint.{ControlPoint}
use Rattle.flow_steps.specs.declared.next.Pace.{Pace}
use Rattle.flow_steps.specs.declared.process.Process.{Process}
use Rattle.flow_steps.specs.Evaluating.{with_left, Evaluates}
use Rattle.flow_steps.specs.Stepping.{IsThrow}
use Rattle.flow_operation_refinement.specs.Continuing.{MayBeStale}
use Rattle.flow_operation_refinement.specs.Carried.{StepsAs}

-- A value was given, with these turns left, and memory goes on with it.
pub record GivesValue {A B : Type 0} (seen : B → A) (comes_to : Res A) (m : Process) (goal : B → Process → Pace → Process → Type 0)
    (pace : Pace) (n : Process) : Type 0 where
  pub value : B
  pub left : ℕ
  pub done : comes_to ≡ Done (seen value) left
  pub goes : goal value (with_left left m) pace n

module _ (r : RawTree) (ls : List Line) (m : Process) (p : Proc Frame) (i : ℕ) (e : Entry) (f : Frame) where
  -- an error is thrown by an expression
  abbrev pub ThrowStep : Type 0
  ThrowStep =
      (x : Scan) (s : ControlPoint) (w : Supply) (t : ExprTree) (comes_to : Res ValueTree) (pace : Pace) (n : Process)
      → MayBeStale r ls x s m p i e f → fetch f.code f.block f.instr ≡ Last (ThrowLast t)
      → comes_to ≡ value (class_names r) (view w i p.core) (look f.mem) t
      → Evaluates s value_of comes_to m (IsThrow s) pace n → StepsAs r ls x w p i e pace n
