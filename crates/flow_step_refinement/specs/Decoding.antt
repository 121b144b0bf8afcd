-- What stands in the code where an actor stands is coded from what its frame has there.
use Rattle.std.specs.Prelude.{◌≡◌, ℕ, List, [], ◌∷◌, map, length, slice_get}
use Rattle.std.specs.Option.{option_map}
use Rattle.std.specs.declared.option.Option.{Option}
use Rattle.std.specs.declared.option.Option.TheVariants.{None, Some}
use Rattle.flow_ast.specs.declared.predefined.Method.{Method}
use Rattle.flow_ast.specs.TypingNames.{named, call_names, method_names}
use Rattle.flow_tree.specs.declared.ty.Ident.{Ident}
use Rattle.flow_tree.specs.Tree.{TypeTree, VectorType, ExprTree, ExprTrees}
use Rattle.flow_value.specs.declared.value.Kind.{Kind}
use Rattle.flow_class.specs.declared.class.Slotted.{Slotted}
use Rattle.flow_class.specs.Classes.{InstrTree, SetInstr, EffectInstr, NewInstr, ActInstr, DropInstr, LastTree, ChooseLast, CallbackTree, ClassTree, RawTree}
use Rattle.flow_class.specs.Code.{Body, Last, fetch, group_at, callbacks_before, type_at}
use Rattle.flow_class.specs.Places.{place_named}
use Rattle.flow_code.specs.Resolved.Tree.{Nodes, EmptyNode}
use Rattle.flow_code.specs.Resolved.Resolving.{IsNumbering, resolved, resolved_all}
use Rattle.flow_code.specs.Resolved.View.{places_in}
use Rattle.flow_code.specs.declared.class.Act.{Act}
use Rattle.flow_code.specs.declared.class.Aim.{Aim}
use Rattle.flow_code.specs.declared.class.Effect.{Effect}
use Rattle.flow_code.specs.Classes.{AimTree, InstructionTree, SetCode, EffectCode, NewCode, ActCode, MethodCode, DropCode, NoCode}
use Rattle.flow_code.specs.Places.{place_of, place_in}
use Rattle.flow_code.specs.declared.class.Effect.TheVariants as effect
use Rattle.flow_code.specs.declared.class.Class.{Class}
use Rattle.flow_code.specs.declared.class.Group.{Group}
use Rattle.flow_code.specs.declared.class.Instruction.{Instruction}
use Rattle.flow_code.specs.declared.class.Last as code
use Rattle.flow_code.specs.declared.program.Code.{Code}
use Rattle.flow_code.specs.View.{code_of, aim_of, instruction_of, end_of, branch_of, group_numbered}
use Rattle.flow_code.specs.Coding.{Coding, act_named, last_name, before_last, effect_in, places, aimed, coded_instruction, ended, coded_branch}
use Rattle.flow_code.specs.Coded.{coding, coded, class_named}
use Rattle.flow_cancel.specs.Heap.{actor_id}
use Rattle.flow_meaning.specs.Evaluating as effects
use Rattle.flow_meaning.specs.Process.{Entry, Proc}
use Rattle.flow_meaning.specs.Class.{class_names, promise_kind}
use Rattle.flow_meaning.specs.Frame.{Frame}
use Rattle.flow_heap_refinement.specs.FrameChanges.{HasPlace}
use Rattle.flow_steps.specs.declared.frames.ControlPoint.{ControlPoint}
use Rattle.flow_steps.specs.declared.next.Pace.TheVariants.{On}
use Rattle.flow_steps.specs.declared.process.Process.{Process}
use Rattle.flow_steps.specs.Points.{IsAtPoint}
use Rattle.flow_steps.specs.Stepping.{StepsOn}
use Rattle.flow_operation_refinement.specs.Placing.{Acts}
use Rattle.flow_operation_refinement.specs.Taking.{PointMatches, AtWait}
use Rattle.flow_operation_refinement.specs.Coded.{CodedBy}
use Rattle.flow_step_refinement.specs.Continuing.{InClass}
use Rattle.flow_step_refinement.specs.Assigning.{AimsAt}

-- An actor stands in a block of the class that is coded from that of its frame.
pub record InCode {r : RawTree} {classes : List Class} (c : CodedBy r classes) (s : ControlPoint) (f : Frame)
    : Type 0 where
  pub class : code_of s.class.now ≡ coded c.names c.class f.code
  pub block : slice_get s.class.now.blocks.items s.place ≡ Some s.block.now

-- An instruction, or the end of a block, where the frame has what it is coded from.
pub record AtInstruction (c : Coding) (f : Frame) (x : Instruction) : Type 0 where
  pub text : InstrTree
  pub fetched : fetch f.code f.block f.instr ≡ Body text
  pub coded : instruction_of x ≡ coded_instruction c f.code text

pub record AtEnd (c : Coding) (f : Frame) (l : code.Last) : Type 0 where
  pub text : LastTree
  pub fetched : fetch f.code f.block f.instr ≡ Last text
  pub coded : end_of l ≡ ended c text

-- what an instruction is coded from, whose parts are there
pub data CodedFrom (c : Coding) (t : ClassTree) (text : InstrTree) (code : InstructionTree) : Type 0 where
  from_set : (xs : List Ident) (e : ExprTree) (a : AimTree) → text ≡ SetInstr xs e → aimed c xs ≡ Some a
      → code ≡ SetCode a (resolved c.names e) → CodedFrom c t text code
  from_effect : (xs : List Ident) (e : ExprTree) (a : AimTree) (f : Effect × Nodes) → text
      ≡ EffectInstr xs e → aimed c xs ≡ Some a
      → effect_in c e ≡ Some f → code ≡ EffectCode a f.0 f.1 → CodedFrom c t text code
  from_new : (q : Slotted) (n : ℕ) (u : TypeTree) (k : Kind) → text ≡ NewInstr q → place_of c.slots q ≡ Some n
      → type_at t q ≡ Some u → promise_kind u ≡ Some k
      → code ≡ NewCode n k → CodedFrom c t text code
  from_vector : (q : Slotted) (n : ℕ) (u : TypeTree) → text ≡ NewInstr q → place_of c.slots q ≡ Some n
      → type_at t q ≡ Some (VectorType u)
      → code ≡ SetCode (record { place = n; path = [] }) EmptyNode → CodedFrom c t text code
  from_act : (f : Ident) (es : ExprTrees) (a : Act) → text ≡ ActInstr (f ∷ []) es
      → act_named (named call_names f.name) (c.names.function f.name) (c.class f.name) ≡ Some a
      → code ≡ ActCode a (resolved_all c.names es) → CodedFrom c t text code
  from_method : (x y : Ident) (ys : List Ident) (es : ExprTrees) (a : AimTree) (m : Method) → text
      ≡ ActInstr (x ∷ y ∷ ys) es
      → aimed c (x ∷ before_last y ys) ≡ Some a → named method_names (last_name y ys).name ≡ Some m
      → code ≡ MethodCode a m (resolved_all c.names es) → CodedFrom c t text code
  from_drop : (ns : List ℕ) → text ≡ DropInstr ns → code ≡ DropCode (places c ns) → CodedFrom c t text code
  from_none : code ≡ NoCode → CodedFrom c t text code

abbrev pub InstructionFrom : Type 0
InstructionFrom = (c : Coding) (t : ClassTree) (text : InstrTree)
    → CodedFrom c t text (coded_instruction c t text)

-- a group of waits of the class, from 1
pub record IsGroup (c : Coding) (f : Frame) (number : ℕ) (g : Group) : Type 0 where
  pub callbacks : List CallbackTree
  pub at : group_at f.code.groups number ≡ Some callbacks
  pub first : g.first ≡ callbacks_before f.code.groups number
  pub coded : map branch_of g.branches.items ≡ map (coded_branch c) callbacks

-- the place that a path begins with is one of the frame
abbrev pub root_of : List Ident → Option Slotted
root_of [] = None
root_of (x ∷ xs) = place_named x.name

abbrev pub Rooted : Frame → List Ident → Type 0
Rooted f path = (q : Slotted) → root_of path ≡ Some q → HasPlace f q

-- where an actor stands by its frame; and where it goes on
abbrev pub BeginsInCode : Type 0
BeginsInCode =
    (r : RawTree) (classes : List Class) (m : Process) (p : Proc Frame) (i : ℕ) (e : Entry) (f : Frame)
    (s : ControlPoint)
    → (c : CodedBy r classes) → Acts r m.heap p i e f → IsAtPoint classes (actor_id i) m s → InCode c s f

abbrev pub StaysInCode : Type 0
StaysInCode =
    (r : RawTree) (classes : List Class) (code : Code) (s t : ControlPoint) (f g : Frame) (m n : Process)
    → (c : CodedBy r classes)
    → InCode c s f → g.code ≡ f.code → StepsOn code s m (On t) n → InCode c t g

-- the same by the number of its class
abbrev pub InClassStays : Type 0
InClassStays =
    (code : Code) (number : ℕ) (s t : ControlPoint) (m n : Process) → InClass code number s
    → StepsOn code s m (On t) n
    → InClass code number t

abbrev pub InCodeOf : Type 0
InCodeOf =
    (r : RawTree) (code : Code) (number : ℕ) (s : ControlPoint) (f : Frame) → (c : CodedBy r code.classes.items)
    → InClass code number s → slice_get r.classes number ≡ Some f.code → InCode c s f

module _ (r : RawTree) (classes : List Class) (s : ControlPoint) (i : ℕ) (f : Frame) where
  abbrev pub InstructionAt : Type 0
  InstructionAt =
      (x : Instruction) → (c : CodedBy r classes) → InCode c s f → PointMatches s i f → s.instruction ≡ f.instr
      → slice_get s.block.now.body.items s.instruction ≡ Some x
      → AtInstruction (coding c.names c.class (length f.code.slots)) f x

  abbrev pub EndAt : Type 0
  EndAt =
      (c : CodedBy r classes) → InCode c s f → PointMatches s i f → s.instruction ≡ f.instr
      → s.instruction ≡ length s.block.now.body.items
      → AtEnd (coding c.names c.class (length f.code.slots)) f s.block.now.last

  abbrev pub GroupAt : Type 0
  GroupAt =
      (number : ℕ) (g : Group) → (c : CodedBy r classes) → InCode c s f
      → group_numbered number s.class.now.groups.items ≡ Some g
      → IsGroup (coding c.names c.class (length f.code.slots)) f number g

  abbrev pub WaitAt : Type 0
  WaitAt =
      (number : ℕ) → (c : CodedBy r classes) → InCode c s f → PointMatches s i f
      → fetch f.code f.block f.instr ≡ Last (ChooseLast number) → AtWait s f number

-- where an actor aims by what its code is coded from
abbrev pub AimOf : Type 0
AimOf =
    (r : RawTree) (classes : List Class) (code : Code) (f : Frame) (path : List Ident) (aim : Aim)
    → (c : CodedBy r classes)
    → IsNumbering r.records c.names.field (places_in code.fields) → Rooted f path
    → aimed (coding c.names c.class (length f.code.slots)) path ≡ Some (aim_of aim)
    → AimsAt r.records code f path aim

-- an effect in the text is one in the code: the same predefined call, or that of the class at the same place
abbrev pub effect_of_name : effects.Effectful → Effect
effect_of_name (effects.World p) = effect.World p
effect_of_name (effects.Actor k) = effect.Actor k

abbrev pub EffectOf : Type 0
EffectOf =
    (r : RawTree) (classes : List Class) (f : Frame) (e : ExprTree) → (c : CodedBy r classes)
    → ((x : List ℕ) → c.class x ≡ class_named r.classes x)
    → effect_in (coding c.names c.class (length f.code.slots)) e
    ≡ option_map (λ g. (effect_of_name g.0, resolved_all (record c.names { place = place_in (length f.code.slots) }) g.1))
    (effects.effect_in (class_names r) e)
