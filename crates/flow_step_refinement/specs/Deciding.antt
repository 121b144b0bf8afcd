-- A step of an actor in memory by which it decides where it goes on is a step of the class machine.
use Rattle.std.specs.Prelude.{◌≡◌, ℕ, List}
use Rattle.flow_value.specs.Values.{ValueTree, refs_of}
use Rattle.flow_value.specs.View.{value_of}
use Rattle.std.specs.declared.option.Option.{Option}
use Rattle.flow_tree.specs.Tree.{ExprTree, returned_expr}
use Rattle.flow_eval.specs.Eval.{Res, Done, truth_of}
use Rattle.flow_class.specs.Classes.{TestLast, ReturnLast, RawTree}
use Rattle.flow_class.specs.Code.{Last, fetch}
use Rattle.flow_trace.specs.declared.line.Line.{Line}
use Rattle.flow_meaning.specs.Requests.{Supply}
use Rattle.flow_meaning.specs.Evaluating.{value}
use Rattle.flow_meaning.specs.Process.{Entry, Proc}
use Rattle.flow_meaning.specs.References.{Scan}
use Rattle.flow_meaning.specs.Step.{view}
use Rattle.flow_meaning.specs.Class.{class_names}
use Rattle.flow_meaning.specs.Frame.{Frame, look}
use Rattle.flow_heap_refinement.specs.Holds.{AllThere}
use Rattle.flow_steps.specs.declared.frames.ControlPoint.{ControlPoint}
use Rattle.flow_steps.specs.declared.next.Pace.{Pace}
use Rattle.flow_steps.specs.declared.process.Process.{Process}
use Rattle.flow_steps.specs.Evaluating.{Evaluates}
use Rattle.flow_steps.specs.Stepping.{truth_value, IsTest, IsReturn}
use Rattle.flow_operation_refinement.specs.Continuing.{MayBeStale}
use Rattle.flow_operation_refinement.specs.Carried.{StepsAs}

-- what evaluation gives refers to what is there
abbrev pub GivesThere : Proc Frame → Res ValueTree → Type 0
GivesThere p comes_to = (v : ValueTree) (left : ℕ) → comes_to ≡ Done v left → AllThere p (refs_of v)

module _ (r : RawTree) (ls : List Line) (m : Process) (p : Proc Frame) (i : ℕ) (e : Entry) (f : Frame) where
  -- one of two blocks, by a truth value
  abbrev pub TestStep : Type 0
  TestStep =
      (x : Scan) (s : ControlPoint) (w : Supply) (t : ExprTree) (one other : ℕ) (comes_to : Res ValueTree)
      (pace : Pace) (n : Process)
      → MayBeStale r ls x s m p i e f → fetch f.code f.block f.instr ≡ Last (TestLast t one other)
      → comes_to ≡ value (class_names r) (view w i p.core) (look f.mem) t
      → Evaluates s truth_value (truth_of comes_to) m (IsTest s one other) pace n
      → StepsAs r ls x w p i e pace n

  -- the actor ends with a value, which refers to what is there
  abbrev pub ReturnStep : Type 0
  ReturnStep =
      (x : Scan) (s : ControlPoint) (w : Supply) (t : Option ExprTree) (comes_to : Res ValueTree) (pace : Pace)
      (n : Process)
      → MayBeStale r ls x s m p i e f → fetch f.code f.block f.instr ≡ Last (ReturnLast t)
      → comes_to ≡ value (class_names r) (view w i p.core) (look f.mem) (returned_expr t) → GivesThere p comes_to
      → Evaluates s value_of comes_to m (IsReturn s) pace n → StepsAs r ls x w p i e pace n
