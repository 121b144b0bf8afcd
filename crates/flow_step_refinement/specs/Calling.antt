-- A call statement of a plain function in memory is a step of the class machine.
use Rattle.std.specs.Prelude.{◌≡◌, ◌≤◌, ℕ, ◌+◌, ◌^◌, pos, List, [], ◌∷◌, length, slice_get}
use Rattle.std.specs.declared.option.Option.TheVariants.{None}
use Rattle.flow_ast.specs.Typing.{routine_named}
use Rattle.flow_ast.specs.TypingNames.{named, call_names}
use Rattle.flow_tree.specs.declared.ty.Ident.{Ident}
use Rattle.flow_tree.specs.Tree.{ExprTrees}
use Rattle.flow_value.specs.Values.{ValueTree}
use Rattle.flow_eval.specs.Eval.{Res}
use Rattle.flow_code.specs.Resolved.Resolving.{resolved_all}
use Rattle.flow_code.specs.Resolved.Evaluation.{values_at}
use Rattle.flow_class.specs.Classes.{ActInstr, RawTree}
use Rattle.flow_class.specs.Code.{Body, fetch}
use Rattle.flow_code.specs.declared.class.Act.TheVariants as act
use Rattle.flow_code.specs.declared.program.Code.{Code}
use Rattle.flow_code.specs.Places.{place_in}
use Rattle.flow_trace.specs.declared.line.Line.{Line}
use Rattle.flow_meaning.specs.Requests.{Supply}
use Rattle.flow_meaning.specs.Evaluating.{setting, values}
use Rattle.flow_meaning.specs.Process.{Entry, Proc}
use Rattle.flow_meaning.specs.References.{Scan}
use Rattle.flow_meaning.specs.Step.{view}
use Rattle.flow_meaning.specs.Class.{class_names}
use Rattle.flow_meaning.specs.Frame.{Frame, look}
use Rattle.flow_steps.specs.declared.frames.ControlPoint.{ControlPoint}
use Rattle.flow_steps.specs.declared.next.Pace.{Pace}
use Rattle.flow_steps.specs.declared.process.Process.{Process}
use Rattle.flow_steps.specs.Acting.{args_of}
use Rattle.flow_steps.specs.Evaluating.{Evaluates, setting_in, sight_in, program_time}
use Rattle.flow_steps.specs.Stepping.{IsAct}
use Rattle.flow_operation_refinement.specs.Placing.{RepresentsActor}
use Rattle.flow_operation_refinement.specs.Seeing.{IsCodeOf}
use Rattle.flow_operation_refinement.specs.Continuing.{MayBeStale}
use Rattle.flow_operation_refinement.specs.Carried.{StepsAs}

-- a plain function of a program by its name, which no predefined one has, and by its number
pub record CallsFunction (r : RawTree) (name : Ident) (number : ℕ) : Type 0 where
  pub own : named call_names name.name ≡ None
  pub same : routine_named r.functions name.name ≡ slice_get r.functions number

-- Arguments of an actor's class come to the same, with as many turns, where the time is the world's and
-- the frame has places with numbers below 2^32.
abbrev pub ArgumentsFollow : Type 0
ArgumentsFollow =
    (r : RawTree) (ls : List Line) (x : Scan) (m : Process) (p : Proc Frame) (i : ℕ) (e : Entry) (f : Frame)
    (code : Code) (s : Supply)
    (es : ExprTrees) → RepresentsActor r ls x m p i e f → (c : IsCodeOf r code) → program_time m.time ≡ pos s.now
    → length f.code.slots + length f.mem.locals ≤ 2 ^ 32
    → values_at (sight_in code i m)
    (resolved_all (record c.coded.names { place = place_in (length f.code.slots) }) es) m.left
    ≡ values (class_names r) (view s i p.core) (look f.mem) es

module _ (r : RawTree) (ls : List Line) (m : Process) (p : Proc Frame) (i : ℕ) (e : Entry) (f : Frame) where
  -- its value is forgotten
  abbrev pub FunctionStep : Type 0
  FunctionStep =
      (x : Scan) (s : ControlPoint) (w : Supply) (code : Code) (name : Ident) (es : ExprTrees) (k : ℕ)
      (comes_to : Res (List ValueTree)) (pace : Pace)
      (n : Process) → MayBeStale r ls x s m p i e f → fetch f.code f.block f.instr
      ≡ Body (ActInstr (name ∷ []) es)
      → CallsFunction r name k → setting_in code m ≡ setting (class_names r) (view w i p.core)
      → comes_to ≡ values (class_names r) (view w i p.core) (look f.mem) es
      → Evaluates s args_of comes_to m (IsAct code s (act.Function k)) pace n → StepsAs r ls x w p i e pace n
