-- A call statement of an actor in memory is a step of the class machine: a predefined call, the start of a void actor, or a
-- method of a reference.
use Rattle.std.specs.Prelude.{◌≡◌, ℕ, List, [], ◌∷◌, position}
use Rattle.std.specs.Option.{option_map}
use Rattle.std.specs.Str.{bytes_eq}
use Rattle.std.specs.declared.option.Option.{Option}
use Rattle.std.specs.declared.option.Option.TheVariants.{None, Some}
use Rattle.flow_ast.specs.declared.predefined.Predefined.{Predefined}
use Rattle.flow_ast.specs.declared.predefined.Method.{Method}
use Rattle.flow_ast.specs.Typing.{routine_named}
use Rattle.flow_ast.specs.TypingNames.{named, call_names, method_names}
use Rattle.flow_tree.specs.declared.ty.Ident.{Ident}
use Rattle.flow_tree.specs.Tree.{ExprTree, ExprTrees, NoExprs, MoreExprs}
use Rattle.flow_value.specs.declared.value.Kind.{Kind}
use Rattle.flow_value.specs.Values.{ValueTree, RefValue, refs_of}
use Rattle.flow_value.specs.View.{value_of}
use Rattle.flow_eval.specs.Eval.{Res, Done}
use Rattle.flow_eval.specs.Functions.{read_in}
use Rattle.flow_class.specs.Classes.{ActInstr, RawTree}
use Rattle.flow_class.specs.Code.{Body, fetch}
use Rattle.flow_code.specs.Resolved.View.{places_in}
use Rattle.flow_code.specs.declared.class.Act.TheVariants as act
use Rattle.flow_code.specs.declared.class.Aim.{Aim}
use Rattle.flow_code.specs.declared.program.Code.{Code}
use Rattle.flow_trace.specs.declared.line.Line.{Line}
use Rattle.flow_meaning.specs.Requests.{Supply}
use Rattle.flow_meaning.specs.Evaluating.{value, values, change_by, before_last, last_of}
use Rattle.flow_meaning.specs.Process.{Entry, Proc}
use Rattle.flow_meaning.specs.References.{Scan}
use Rattle.flow_meaning.specs.Step.{view}
use Rattle.flow_meaning.specs.Class.{class_names}
use Rattle.flow_meaning.specs.Frame.{Frame, look}
use Rattle.flow_heap_refinement.specs.Rested.{Sorted}
use Rattle.flow_heap_refinement.specs.Holds.{There, AllThere}
use Rattle.flow_steps.specs.declared.frames.ControlPoint.{ControlPoint}
use Rattle.flow_steps.specs.declared.next.Pace.{Pace}
use Rattle.flow_steps.specs.declared.process.Process.{Process}
use Rattle.flow_steps.specs.Points.{field_path, place_held}
use Rattle.flow_steps.specs.Evaluating.{Evaluates}
use Rattle.flow_steps.specs.Acting.{args_of}
use Rattle.flow_steps.specs.Stepping.{IsAct, IsCall}
use Rattle.flow_operation_refinement.specs.Matching.{Sound}
use Rattle.flow_operation_refinement.specs.Continuing.{MayBeStale}
use Rattle.flow_step_refinement.specs.Effects.Asking.{Answered}
use Rattle.flow_step_refinement.specs.Effects.Starting.{MayStart}

-- Where an aim leads in memory, the names of a path lead in the frame: to a reference that is there.
pub record AimsAtRef (r : RawTree) (code : Code) (m : Process) (p : Proc Frame) (i : ℕ) (f : Frame) (aim : Aim) (path : Option ValueTree)
    : Type 0 where
  pub same : field_path (places_in code.fields) aim.path.items (option_map value_of (place_held i aim.place m.heap)) ≡ path
  pub there : (kd : Kind) (k : ℕ) → path ≡ Some (RefValue kd k) → There p (kd, k)

-- A process in which an actor may be cancelled or sent a value.
pub record MayCall (m : Process) (p : Proc Frame) : Type 0 where
  pub sound : Sound p
  pub sorted : Sorted m.heap
  pub asked : m.asked ≡ None

-- a name that is no predefined call and no plain function, but a class by its number
pub record StartsClass (r : RawTree) (name : Ident) (class : ℕ) : Type 0 where
  pub own : named call_names name.name ≡ None
  pub function : routine_named r.functions name.name ≡ None
  pub same : position (bytes_eq name.name) (class_names r).actors ≡ Some class

module _ (r : RawTree) (ls : List Line) (m : Process) (p : Proc Frame) (i : ℕ) (e : Entry) (f : Frame) where
  -- a value is printed, or a text is sent
  abbrev pub PredefinedStep : Type 0
  PredefinedStep =
      (x : Scan) (s : ControlPoint) (w : Supply) (code : Code) (name : Ident) (es : ExprTrees) (called : Predefined)
      (comes_to : Res (List ValueTree))
      (pace : Pace) (n : Process) → MayBeStale r ls x s m p i e f → m.asked ≡ None
      → fetch f.code f.block f.instr ≡ Body (ActInstr (name ∷ []) es) → named call_names name.name ≡ Some called
      → comes_to ≡ values (class_names r) (view w i p.core) (look f.mem) es
      → Evaluates s args_of comes_to m (IsAct code s (act.World called)) pace n
      → Answered r ls x w p i e pace n

  -- a void actor starts
  abbrev pub VoidStep : Type 0
  VoidStep =
      (x : Scan) (s : ControlPoint) (w : Supply) (code : Code) (name : Ident) (es : ExprTrees) (class : ℕ) (comes_to : Res (List ValueTree))
      (pace : Pace) (n : Process) → MayBeStale r ls x s m p i e f → m.asked ≡ None
      → fetch f.code f.block f.instr ≡ Body (ActInstr (name ∷ []) es) → StartsClass r name class
      → ((vs : List ValueTree) (left : ℕ) → comes_to ≡ Done vs left → MayStart r p code class vs)
      → comes_to ≡ values (class_names r) (view w i p.core) (look f.mem) es
      → Evaluates s args_of comes_to m (IsAct code s (act.Actor class)) pace n
      → Answered r ls x w p i e pace n

  -- what a path leads to, up to the name of the method
  abbrev pub based : Ident → Ident → List Ident → Option ValueTree
  based y z ys = read_in r.records (look f.mem y.name) (before_last z ys)

  -- a method without an argument, and with one
  abbrev pub MethodStep : Type 0
  MethodStep =
      (x : Scan) (s : ControlPoint) (w : Supply) (code : Code) (y z : Ident) (ys : List Ident) (aim : Aim) (called : Method) (pace : Pace)
      (n : Process)
      → MayBeStale r ls x s m p i e f → MayCall m p
      → fetch f.code f.block f.instr ≡ Body (ActInstr (y ∷ z ∷ ys) NoExprs) → named method_names (last_of z ys).name ≡ Some called
      → change_by (Some called) ≡ None → AimsAtRef r code m p i f aim (based y z ys)
      → IsCall code s aim called None m pace n
      → Answered r ls x w p i e pace n

  abbrev pub MethodOfStep : Type 0
  MethodOfStep =
      (x : Scan) (s : ControlPoint) (w : Supply) (code : Code) (y z : Ident) (ys : List Ident) (t : ExprTree) (aim : Aim) (called : Method)
      (comes_to : Res ValueTree) (pace : Pace) (n : Process)
      → MayBeStale r ls x s m p i e f → MayCall m p
      → fetch f.code f.block f.instr ≡ Body (ActInstr (y ∷ z ∷ ys) (MoreExprs t NoExprs))
      → named method_names (last_of z ys).name ≡ Some called
      → change_by (Some called) ≡ None → AimsAtRef r code m p i f aim (based y z ys)
      → ((v : ValueTree) (left : ℕ) → comes_to ≡ Done v left → AllThere p (refs_of v))
      → comes_to ≡ value (class_names r) (view w i p.core) (look f.mem) t
      → Evaluates s value_of comes_to m (λ v. IsCall code s aim called (Some v)) pace n
      → Answered r ls x w p i e pace n
