-- What a task of an actor finds in the code is coded from what its frame has there.
use Rattle.std.specs.Prelude.{◌≡◌, ◌≤◌, ℕ, ◌+◌, ◌^◌, List, length, slice_get}
use Rattle.std.specs.declared.option.Option.TheVariants.{Some}
use Rattle.std.specs.declared.vec.Vec.{Vec}
use Rattle.std.specs.declared.alloc.Global.{Global}
use Rattle.flow_tree.specs.declared.ty.Ident.{Ident}
use Rattle.flow_tree.specs.Tree.{ExprTree}
use Rattle.flow_code.specs.declared.expr.expr.Resolved.{Resolved}
use Rattle.flow_code.specs.Resolved.Resolving.{IsNumbering}
use Rattle.flow_code.specs.Resolved.View.{places_in}
use Rattle.flow_class.specs.declared.class.Slotted.{Slotted}
use Rattle.flow_class.specs.Classes.{EffectInstr, ChooseLast, CallbackTree, RawTree}
use Rattle.flow_class.specs.Code.{Body, Last, fetch, callback_at}
use Rattle.flow_code.specs.declared.class.Aim.{Aim}
use Rattle.flow_code.specs.declared.class.Branch.{Branch}
use Rattle.flow_code.specs.declared.class.Class.{Class}
use Rattle.flow_code.specs.declared.class.Effect.{Effect}
use Rattle.flow_code.specs.declared.class.Instruction.TheVariants as instruction
use Rattle.flow_code.specs.declared.program.Code.{Code}
use Rattle.flow_trace.specs.declared.line.Line.{Line}
use Rattle.flow_meaning.specs.Process.{Entry, Proc}
use Rattle.flow_meaning.specs.Frame.{Frame}
use Rattle.flow_heap_refinement.specs.FrameChanges.{HasPlace}
use Rattle.flow_steps.specs.declared.frames.ControlPoint.{ControlPoint}
use Rattle.flow_steps.specs.declared.process.Process.{Process}
use Rattle.flow_steps.specs.Tasks.{BranchAt}
use Rattle.flow_operation_refinement.specs.Taking.{PointMatches}
use Rattle.flow_operation_refinement.specs.Continuing.{SameInto}
use Rattle.flow_operation_refinement.specs.Coded.{CodedBy}
use Rattle.flow_step_refinement.specs.Assigning.{AimsAt}
use Rattle.flow_step_refinement.specs.Decoding.{InCode, Rooted}

-- where the result of an effect is stored
abbrev pub EffectAims : Type 0
EffectAims =
    (r : RawTree) (classes : List Class) (code : Code) (s : ControlPoint) (i : ℕ) (f : Frame) (path : List Ident)
    (from : ExprTree) (aim : Aim)
    (effect : Effect) (args : Vec Resolved Global) → (c : CodedBy r classes) → InCode c s f → PointMatches s i f
    → s.instruction ≡ f.instr → fetch f.code f.block f.instr ≡ Body (EffectInstr path from)
    → slice_get s.block.now.body.items s.instruction ≡ Some (instruction.Effect aim effect args)
    → IsNumbering r.records c.names.field (places_in code.fields) → Rooted f path
    → AimsAt r.records code f path aim

-- where an actor goes on by a branch, and where the value of that goes
abbrev pub BranchCoded : Type 0
BranchCoded =
    (r : RawTree) (ls : List Line) (m : Process) (p : Proc Frame) (i : ℕ) (e : Entry) (f : Frame)
    (classes : List Class) (s : ControlPoint)
    (group number : ℕ) (callback : CallbackTree) (b : Branch) → (c : CodedBy r classes) → InCode c s f
    → PointMatches s i f
    → fetch f.code f.block f.instr ≡ Last (ChooseLast group) → callback_at f.code group number ≡ Some callback
    → length f.mem.slots ≡ length f.code.slots → length f.code.slots + length f.mem.locals ≤ 2 ^ 32
    → ((q : Slotted) → callback.into ≡ Some q → HasPlace f q) → BranchAt s number b
    → (b.block ≡ callback.block) × SameInto r ls m p i e f b.into callback.into
