-- What the code has an actor do by an effect or a call statement is a step of the class machine.
use Rattle.std.specs.Prelude.{◌≡◌, ◌≤◌, ◌+◌, ◌^◌, ℕ, pos, List, [], ◌∷◌, length}
use Rattle.std.specs.declared.option.Option.TheVariants.{None, Some}
use Rattle.std.specs.declared.vec.Vec.{Vec}
use Rattle.std.specs.declared.alloc.Global.{Global}
use Rattle.flow_ast.specs.declared.predefined.Predefined.{Predefined}
use Rattle.flow_ast.specs.declared.predefined.Method.{Method}
use Rattle.flow_tree.specs.declared.ty.Ident.{Ident}
use Rattle.flow_tree.specs.Tree.{ExprTree, ExprTrees, NoExprs, MoreExprs}
use Rattle.flow_value.specs.Values.{ValueTree, refs_of}
use Rattle.flow_eval.specs.Eval.{Done}
use Rattle.flow_eval.specs.Functions.{read_in}
use Rattle.flow_class.specs.Classes.{InstrTree, EffectInstr, ActInstr, ChooseLast, CallbackTree, RawTree}
use Rattle.flow_class.specs.Code.{Body, Last, fetch, callback_at}
use Rattle.flow_code.specs.declared.expr.expr.Resolved.{Resolved}
use Rattle.flow_code.specs.declared.class.Act.TheVariants as act
use Rattle.flow_code.specs.declared.class.Aim.{Aim}
use Rattle.flow_code.specs.declared.class.Effect.{Effect}
use Rattle.flow_code.specs.declared.class.Instruction.{Instruction}
use Rattle.flow_code.specs.declared.class.Instruction.TheVariants as instruction
use Rattle.flow_code.specs.declared.class.Operand.TheVariants as operand
use Rattle.flow_code.specs.declared.program.Code.{Code}
use Rattle.flow_code.specs.View.{instruction_of, operand_of}
use Rattle.flow_code.specs.Coding.{coded_instruction, coded_operand}
use Rattle.flow_code.specs.Coded.{coding}
use Rattle.flow_trace.specs.declared.line.Line.{Line}
use Rattle.flow_meaning.specs.Requests.{Supply}
use Rattle.flow_meaning.specs.Evaluating.{Effectful, effect_in, value, values, change_by, before_last}
use Rattle.flow_numbered.specs.Numbered.{thing}
use Rattle.flow_meaning.specs.Process.{Entry, Proc}
use Rattle.flow_meaning.specs.References.{Scan}
use Rattle.flow_meaning.specs.Step.{kept_by, view}
use Rattle.flow_meaning.specs.Class.{class_names}
use Rattle.flow_meaning.specs.Frame.{Frame, look, spot_of}
use Rattle.flow_heap_refinement.specs.Holds.{AllThere}
use Rattle.flow_steps.specs.declared.frames.ControlPoint.{ControlPoint}
use Rattle.flow_steps.specs.declared.next.Pace.{Pace}
use Rattle.flow_steps.specs.declared.process.Process.{Process}
use Rattle.flow_steps.specs.Evaluating.{program_time}
use Rattle.flow_steps.specs.Stepping.{Does, OperandStep}
use Rattle.flow_operation_refinement.specs.Placing.{RepresentsActor}
use Rattle.flow_operation_refinement.specs.Seeing.{IsCodeOf}
use Rattle.flow_operation_refinement.specs.Continuing.{MayBeStale}
use Rattle.flow_step_refinement.specs.Effects.Asking.{MayAsk, Answered}
use Rattle.flow_step_refinement.specs.Effects.Effects.{MayMake}
use Rattle.flow_step_refinement.specs.Effects.Calling.{AimsAtRef, MayCall, StartsClass}
use Rattle.flow_step_refinement.specs.Effects.Starting.{MayStart}

-- The code is that of the program, the time is the world's, and the frame's places have numbers below 2^32.
pub record Judged (r : RawTree) (code : Code) (m : Process) (w : Supply) (f : Frame) : Type 0 where
  pub is : IsCodeOf r code
  pub time : program_time m.time ≡ pos w.now
  pub few : length f.code.slots + length f.mem.locals ≤ 2 ^ 32

-- an instruction where the frame has what it is coded from
pub record FromText {r : RawTree} {code : Code} (c : IsCodeOf r code) (f : Frame) (x : Instruction) (text : InstrTree) : Type 0 where
  pub fetched : fetch f.code f.block f.instr ≡ Body text
  pub coded : instruction_of x ≡ coded_instruction (coding c.coded.names c.coded.class (length f.code.slots)) f.code text

module _ (r : RawTree) (ls : List Line) (m : Process) (p : Proc Frame) (i : ℕ) (e : Entry) (f : Frame) where
  -- what an expression makes of the process, where it is an effect
  abbrev pub ExprMakes : Code → Supply → ExprTree → Type 0
  ExprMakes code w t =
      (called : Effectful) (es : ExprTrees) → effect_in (class_names r) t ≡ Some (called, es)
      → MayMake r code p called (values (class_names r) (view w i p.core) (look f.mem) es)

  abbrev pub EffectDoes : Type 0
  EffectDoes =
      (x : Scan) (s : ControlPoint) (w : Supply) (code : Code) (aim : Aim) (eff : Effect) (args : Vec Resolved Global) (text : InstrTree)
      (pace : Pace)
      (n : Process) → MayBeStale r ls x s m p i e f → m.asked ≡ None → (j : Judged r code m w f)
      → FromText j.is f (instruction.Effect aim eff args) text
      → ((path : List Ident) (t : ExprTree) → text ≡ EffectInstr path t → ExprMakes code w t)
      → Does code s (instruction.Effect aim eff args) m pace n → Answered r ls x w p i e pace n

  -- the next operand of a wait at which the actor stands
  abbrev pub OperandDoes : Type 0
  OperandDoes =
      (x : Scan) (s : ControlPoint) (w : Supply) (code : Code) (group k : ℕ) (b : CallbackTree) (eff : Effect) (args : Vec Resolved Global)
      (pace : Pace) (n : Process) → MayAsk r ls x s m p i e f → RepresentsActor r ls x m p i e f → (j : Judged r code m w f)
      → fetch f.code f.block f.instr ≡ Last (ChooseLast group)
      → callback_at f.code group (kept_by (thing p.core.entries i)) ≡ Some b
      → k ≡ (spot_of f.code group).first + kept_by (thing p.core.entries i)
      → operand_of (operand.Effect eff args) ≡ coded_operand (coding j.is.coded.names j.is.coded.class (length f.code.slots)) b.operand
      → ExprMakes code w b.operand
      → OperandStep code s k (operand.Effect eff args) m pace n → Answered r ls x w p i e pace n

  abbrev pub CallDoes : Type 0
  CallDoes =
      (x : Scan) (s : ControlPoint) (w : Supply) (code : Code) (called : Predefined) (args : Vec Resolved Global) (text : InstrTree)
      (pace : Pace)
      (n : Process) → MayBeStale r ls x s m p i e f → m.asked ≡ None → (j : Judged r code m w f)
      → FromText j.is f (instruction.Act (act.World called) args) text
      → Does code s (instruction.Act (act.World called) args) m pace n → Answered r ls x w p i e pace n

  -- what a class that is started needs
  abbrev pub VoidMay : Code → Supply → (class : ℕ) → InstrTree → Type 0
  VoidMay code w class text =
      (name : Ident) (es : ExprTrees) → text ≡ ActInstr (name ∷ []) es → StartsClass r name class → (vs : List ValueTree) (left : ℕ)
      → values (class_names r) (view w i p.core) (look f.mem) es ≡ Done vs left → MayStart r p code class vs

  abbrev pub VoidDoes : Type 0
  VoidDoes =
      (x : Scan) (s : ControlPoint) (w : Supply) (code : Code) (class : ℕ) (args : Vec Resolved Global) (text : InstrTree)
      (pace : Pace)
      (n : Process) → MayBeStale r ls x s m p i e f → m.asked ≡ None → (j : Judged r code m w f)
      → FromText j.is f (instruction.Act (act.Actor class) args) text → VoidMay code w class text
      → Does code s (instruction.Act (act.Actor class) args) m pace n → Answered r ls x w p i e pace n

  -- where a method's path leads, and what its argument refers to
  pub record MethodMay (code : Code) (w : Supply) (aim : Aim) (text : InstrTree) : Type 0 where
    pub aims : (y z : Ident) (ys : List Ident) (es : ExprTrees) → text ≡ ActInstr (y ∷ z ∷ ys) es
        → AimsAtRef r code m p i f aim (read_in r.records (look f.mem y.name) (before_last z ys))
    pub there : (ys : List Ident) (t : ExprTree) (v : ValueTree) (left : ℕ) → text ≡ ActInstr ys (MoreExprs t NoExprs)
        → value (class_names r) (view w i p.core) (look f.mem) t ≡ Done v left → AllThere p (refs_of v)

  abbrev pub MethodDoes : Type 0
  MethodDoes =
      (x : Scan) (s : ControlPoint) (w : Supply) (code : Code) (aim : Aim) (called : Method) (args : Vec Resolved Global) (text : InstrTree)
      (pace : Pace) (n : Process) → MayBeStale r ls x s m p i e f → MayCall m p → (j : Judged r code m w f)
      → FromText j.is f (instruction.Method aim called args) text → change_by (Some called) ≡ None → MethodMay code w aim text
      → Does code s (instruction.Method aim called args) m pace n → Answered r ls x w p i e pace n
