-- A step of an actor in memory by an instruction that asks nothing of the world is a row of steps of the
-- class machine.
use Rattle.std.specs.Prelude.{◌≡◌, ◌≤◌, ◌⊎◌, ℕ, ◌+◌, ◌^◌, pos, List, ◌∷◌, length, slice_get}
use Rattle.std.specs.declared.option.Option.TheVariants.{None, Some}
use Rattle.std.specs.declared.vec.Vec.{Vec}
use Rattle.std.specs.declared.alloc.Global.{Global}
use Rattle.flow_ast.specs.declared.predefined.Predefined.{Predefined}
use Rattle.flow_ast.specs.declared.predefined.Method.{Method}
use Rattle.flow_tree.specs.declared.ty.Ident.{Ident}
use Rattle.flow_tree.specs.Tree.{ExprTree, ExprTrees, NoExprs, MoreExprs, returned_expr}
use Rattle.flow_value.specs.Values.{ValueTree, OutcomeTree}
use Rattle.flow_eval.specs.Eval.{Res}
use Rattle.flow_code.specs.declared.expr.expr.Resolved.{Resolved}
use Rattle.flow_class.specs.Classes.{SetInstr, NewInstr, ActInstr, DropInstr, ReturnLast, ChooseLast, CallbackTree, RawTree}
use Rattle.flow_class.specs.Code.{Fetched, Body, Last, fetch, callback_at}
use Rattle.flow_code.specs.declared.class.Act.TheVariants as act
use Rattle.flow_code.specs.declared.class.Aim.{Aim}
use Rattle.flow_code.specs.declared.class.Branch.{Branch}
use Rattle.flow_code.specs.declared.class.Effect.{Effect}
use Rattle.flow_code.specs.declared.class.Group.{Group}
use Rattle.flow_code.specs.declared.class.Instruction.TheVariants as instruction
use Rattle.flow_code.specs.declared.class.Last.TheVariants as last
use Rattle.flow_code.specs.declared.class.Operand.TheVariants as operand
use Rattle.flow_code.specs.declared.program.Code.{Code}
use Rattle.flow_code.specs.View.{group_numbered}
use Rattle.flow_trace.specs.declared.line.Line.{Line}
use Rattle.flow_numbered.specs.Numbered.{thing}
use Rattle.flow_meaning.specs.Requests.{Supply}
use Rattle.flow_meaning.specs.Cells.{Ref, Cell, taken}
use Rattle.flow_meaning.specs.Evaluating.{effect_in, value, change_by, base_of}
use Rattle.flow_meaning.specs.Process.{Run, Entry, Proc}
use Rattle.flow_meaning.specs.References.{Scan, refs_in, value_in}
use Rattle.flow_meaning.specs.Orderly.{Rising}
use Rattle.flow_meaning.specs.Work.{pushed}
use Rattle.flow_meaning.specs.Step.{view, on_core}
use Rattle.flow_meaning.specs.Class.{class_names}
use Rattle.flow_meaning.specs.Frame.{Frame, look}
use Rattle.flow_heap_refinement.specs.FrameChanges.{HasPlace}
use Rattle.flow_heap_refinement.specs.Holds.{AllThere}
use Rattle.flow_steps.specs.declared.call.Goal.TheVariants as goal
use Rattle.flow_steps.specs.declared.frames.ControlPoint.{ControlPoint}
use Rattle.flow_steps.specs.declared.next.Pace.{Pace}
use Rattle.flow_steps.specs.declared.process.Process.{Process}
use Rattle.flow_steps.specs.Acting.{IsEffect}
use Rattle.flow_steps.specs.Evaluating.{program_time}
use Rattle.flow_steps.specs.Points.{noted, noted_stand}
use Rattle.flow_steps.specs.Stepping.{Does, StepsOn, kept_by}
use Rattle.flow_operation_refinement.specs.Placing.{HasLocals}
use Rattle.flow_operation_refinement.specs.Taking.{MayGo}
use Rattle.flow_operation_refinement.specs.Seeing.{IsCodeOf}
use Rattle.flow_operation_refinement.specs.Coded.{CodedBy}
use Rattle.flow_operation_refinement.specs.Waiting.{Waitable}
use Rattle.flow_step_refinement.specs.Continuing.{MayStep, GoesBy}
use Rattle.flow_step_refinement.specs.Deciding.{GivesThere}
use Rattle.flow_step_refinement.specs.Assigning.{CanAssignAll}
use Rattle.flow_step_refinement.specs.Choosing.{GivesOperand}
use Rattle.flow_step_refinement.specs.Decoding.{InCode, Rooted}

-- What has to hold in the class machine of an actor that takes a step by what it stands at.
module _ (r : RawTree) (w : Supply) (p : Proc Frame) (i : ℕ) (e : Entry) (f : Frame) where
  abbrev pub value_now : ExprTree → Res ValueTree
  value_now t = value (class_names r) (view w i p.core) (look f.mem) t

  -- a value refers to what is there, and can be put where the path leads
  pub record MaySet (path : List Ident) (t : ExprTree) : Type 0 where
    pub there : GivesThere p (value_now t)
    pub rooted : Rooted f path
    pub can : CanAssignAll r.records f path (value_now t)

  -- some operands are kept, each of which may wait at its cell, and what stands in cells refers to what
  -- is there
  pub record AllKept : Type 0 where
    pub first : Ref
    pub others : List Ref
    pub operands : e.operands ≡ first ∷ others
    pub waitable : Waitable p.core.cells e.operands
    pub contents : (k : ℕ) (c : Cell) (o : OutcomeTree) → thing p.core.cells k ≡ Some c → taken c ≡ Some o
        → AllThere p (refs_in (value_in o))

  pub record MayChoose (group : ℕ) : Type 0 where
    pub go : MayGo i e p.core
    pub operand : (b : CallbackTree) → callback_at f.code group (length e.operands) ≡ Some b
        → effect_in (class_names r) b.operand ≡ None → GivesOperand p (value_now b.operand)
    pub kept : callback_at f.code group (length e.operands) ≡ None → AllKept

  -- where a method is called its path begins with a place of the frame, and what it gets refers to what is there
  pub record MayChange (path : List Ident) (es : ExprTrees) : Type 0 where
    pub rooted : Rooted f (base_of path)
    pub there : (t : ExprTree) → es ≡ MoreExprs t NoExprs → GivesThere p (value_now t)

  abbrev pub MayDoNext : Fetched → Type 0
  MayDoNext (Body (SetInstr path t)) = MaySet path t
  MayDoNext (Body (NewInstr q)) = HasPlace f q × Rising 0 p.core.made p.core.cells
  MayDoNext (Body (DropInstr ns)) = HasLocals f ns
  MayDoNext (Body (ActInstr path es)) = MayChange path es
  MayDoNext (Last (ReturnLast t)) = GivesThere p (value_now (returned_expr t))
  MayDoNext (Last (ChooseLast g)) = MayChoose g
  MayDoNext _ = Unit {0}

-- An actor stands in the code of its program, in a frame of few places.
abbrev pub coded_by : {r : RawTree} {code : Code} → IsCodeOf r code → CodedBy r code.classes.items
coded_by c = record { names = c.coded.names; class = c.coded.class; are_coded = c.coded.are_coded }

pub record InProgram (r : RawTree) (code : Code) (s : ControlPoint) (f : Frame) : Type 0 where
  pub program : IsCodeOf r code
  pub standing : InCode (coded_by program) s f
  pub few : length f.code.slots + length f.mem.locals ≤ 2 ^ 32

-- A step that asks something of the process or of the world: an effect, a call statement, one that starts a void actor, a
-- method of a reference, or an operand by an effect.
pub data Asks (code : Code) (s : ControlPoint) (m : Process) (pace : Pace) (n : Process) : Type 0 where
  by_effect : (aim : Aim) (effect : Effect) (args : Vec Resolved Global)
      → slice_get s.block.now.body.items s.instruction ≡ Some (instruction.Effect aim effect args)
      → Does code s (instruction.Effect aim effect args) m pace n → Asks code s m pace n
  by_act : (called : Predefined) (args : Vec Resolved Global)
      → slice_get s.block.now.body.items s.instruction ≡ Some (instruction.Act (act.World called) args)
      → Does code s (instruction.Act (act.World called) args) m pace n → Asks code s m pace n
  by_start : (class : ℕ) (args : Vec Resolved Global)
      → slice_get s.block.now.body.items s.instruction ≡ Some (instruction.Act (act.Actor class) args)
      → Does code s (instruction.Act (act.Actor class) args) m pace n → Asks code s m pace n
  by_method : (aim : Aim) (method : Method) (args : Vec Resolved Global)
      → slice_get s.block.now.body.items s.instruction ≡ Some (instruction.Method aim method args) → change_by (Some method) ≡ None
      → Does code s (instruction.Method aim method args) m pace n → Asks code s m pace n
  by_operand : (number : ℕ) (group : Group) (b : Branch) (effect : Effect) (args : Vec Resolved Global)
      → s.instruction ≡ length s.block.now.body.items → s.block.now.last ≡ last.Choose number
      → group_numbered number s.class.now.groups.items ≡ Some group
      → slice_get group.branches.items (kept_by (noted_stand s) (noted s m)) ≡ Some b → b.operand
      ≡ operand.Effect effect args
      → IsEffect code (noted_stand s)
      (goal.Kept (group.first + kept_by (noted_stand s) (noted s m))) effect args.items (noted s m) pace n
      → Asks code s m pace n

module _ (r : RawTree) (ls : List Line) (m : Process) (p : Proc Frame) (i : ℕ) (e : Entry) (f : Frame) where
  abbrev pub StepFollows : Type 0
  StepFollows =
      (x : Scan) (s : ControlPoint) (w : Supply) (code : Code) (pace : Pace) (n : Process)
      → MayStep r ls x s m p i e f
      → InProgram r code s f → m.asked ≡ None → program_time m.time ≡ pos w.now
      → MayDoNext r w p i e f (fetch f.code f.block f.instr) → StepsOn code s m pace n
      → GoesBy r ls x w i e.class (on_core (pushed (Run i)) p) pace n ⊎ Asks code s m pace n
