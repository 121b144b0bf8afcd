-- What an effect or a call statement of the code is coded from, and what the path of a method leads to.
use Rattle.std.specs.Prelude.{◌≡◌, ℕ, List, [], ◌∷◌, length}
use Rattle.std.specs.Option.{option_map}
use Rattle.std.specs.declared.option.Option.{Option}
use Rattle.std.specs.declared.option.Option.TheVariants.{Some}
use Rattle.flow_ast.specs.declared.predefined.Predefined.{Predefined}
use Rattle.flow_ast.specs.declared.predefined.Method.{Method}
use Rattle.flow_ast.specs.TypingNames.{named, call_names, method_names}
use Rattle.flow_tree.specs.declared.ty.Ident.{Ident}
use Rattle.flow_tree.specs.Tree.{ExprTree, ExprTrees}
use Rattle.flow_value.specs.View.{value_of}
use Rattle.flow_eval.specs.Functions.{read_in}
use Rattle.flow_class.specs.declared.class.Slotted.{Slotted}
use Rattle.flow_class.specs.Classes.{InstrTree, EffectInstr, ActInstr, ClassTree, RawTree}
use Rattle.flow_class.specs.Places.{place_named}
use Rattle.flow_code.specs.Resolved.Tree.{Nodes}
use Rattle.flow_code.specs.Resolved.Resolving.{AreFunctions, IsNumbering, resolved_all}
use Rattle.flow_code.specs.Resolved.View.{places_in}
use Rattle.flow_code.specs.declared.class.Act.TheVariants as act
use Rattle.flow_code.specs.declared.class.Aim.{Aim}
use Rattle.flow_code.specs.declared.class.Effect.{Effect}
use Rattle.flow_code.specs.declared.program.Code.{Code}
use Rattle.flow_code.specs.Classes.{AimTree, EffectCode, ActCode, MethodCode, EffectOperand}
use Rattle.flow_code.specs.Coding.{Coding, aimed, fields_of, coded_instruction, coded_operand}
use Rattle.flow_code.specs.Coded.{class_named}
use Rattle.flow_trace.specs.declared.line.Line.{Line}
use Rattle.flow_meaning.specs.Evaluating.{Effectful, effect_in, before_last, last_of}
use Rattle.flow_meaning.specs.Process.{Entry, Proc}
use Rattle.flow_meaning.specs.References.{Scan}
use Rattle.flow_meaning.specs.Class.{class_names}
use Rattle.flow_meaning.specs.Frame.{Frame, look}
use Rattle.flow_heap_refinement.specs.FrameChanges.{HasPlace, number_in}
use Rattle.flow_steps.specs.declared.process.Process.{Process}
use Rattle.flow_steps.specs.Points.{field_path, place_held}
use Rattle.flow_operation_refinement.specs.Placing.{RepresentsActor}
use Rattle.flow_step_refinement.specs.Effects.Calling.{StartsClass}
use Rattle.flow_step_refinement.specs.Effects.Effects.{SameEffect}

-- the expression that an effect with its arguments is coded from
pub record EffectText (r : RawTree) (c : Coding) (t : ExprTree) (eff : Effect) (args : Nodes) : Type 0 where
  pub called : Effectful
  pub exprs : ExprTrees
  pub is_effect : effect_in (class_names r) t ≡ Some (called, exprs)
  pub same : SameEffect eff called
  pub resolved : args ≡ resolved_all c.names exprs

-- the classes of the code are those of the program
abbrev pub NamesClasses : RawTree → Coding → Type 0
NamesClasses r c = (name : List ℕ) → c.class name ≡ class_named r.classes name

-- an effect as an instruction, and as an operand
pub record EffectInstruction (r : RawTree) (c : Coding) (text : InstrTree) (aim : AimTree) (eff : Effect) (args : Nodes) : Type 0 where
  pub path : List Ident
  pub expr : ExprTree
  pub is : text ≡ EffectInstr path expr
  pub aims : aimed c path ≡ Some aim
  pub effect : EffectText r c expr eff args

abbrev pub EffectCoded : Type 0
EffectCoded =
    (r : RawTree) (c : Coding) (k : ClassTree) (text : InstrTree) (aim : AimTree) (eff : Effect) (args : Nodes) → NamesClasses r c
    → EffectCode aim eff args ≡ coded_instruction c k text → EffectInstruction r c text aim eff args

abbrev pub OperandCoded : Type 0
OperandCoded =
    (r : RawTree) (c : Coding) (t : ExprTree) (eff : Effect) (args : Nodes) → NamesClasses r c
    → EffectOperand eff args ≡ coded_operand c t → EffectText r c t eff args

-- a predefined call statement
pub record CallText (c : Coding) (text : InstrTree) (called : Predefined) (args : Nodes) : Type 0 where
  pub name : Ident
  pub exprs : ExprTrees
  pub is : text ≡ ActInstr (name ∷ []) exprs
  pub named : named call_names name.name ≡ Some called
  pub resolved : args ≡ resolved_all c.names exprs

abbrev pub CallCoded : Type 0
CallCoded =
    (c : Coding) (k : ClassTree) (text : InstrTree) (called : Predefined) (args : Nodes)
    → ActCode (act.World called) args ≡ coded_instruction c k text → CallText c text called args

-- the start of a void actor
pub record VoidText (r : RawTree) (c : Coding) (text : InstrTree) (class : ℕ) (args : Nodes) : Type 0 where
  pub name : Ident
  pub exprs : ExprTrees
  pub is : text ≡ ActInstr (name ∷ []) exprs
  pub starts : StartsClass r name class
  pub resolved : args ≡ resolved_all c.names exprs

abbrev pub VoidCoded : Type 0
VoidCoded =
    (r : RawTree) (c : Coding) (k : ClassTree) (text : InstrTree) (class : ℕ) (args : Nodes) → NamesClasses r c
    → AreFunctions r.functions c.names.function
    → ActCode (act.Actor class) args ≡ coded_instruction c k text → VoidText r c text class args

-- a method of what a path leads to
pub record MethodText (c : Coding) (text : InstrTree) (aim : AimTree) (called : Method) (args : Nodes) : Type 0 where
  pub root : Ident
  pub second : Ident
  pub others : List Ident
  pub exprs : ExprTrees
  pub is : text ≡ ActInstr (root ∷ second ∷ others) exprs
  pub named : named method_names (last_of second others).name ≡ Some called
  pub aims : aimed c (root ∷ before_last second others) ≡ Some aim
  pub resolved : args ≡ resolved_all c.names exprs

abbrev pub MethodCoded : Type 0
MethodCoded =
    (c : Coding) (k : ClassTree) (text : InstrTree) (aim : AimTree) (called : Method) (args : Nodes)
    → MethodCode aim called args ≡ coded_instruction c k text → MethodText c text aim called args

-- What a path leads to by the numbers of its fields is what it leads to by their names.
abbrev pub PathSeen : Type 0
PathSeen =
    (r : RawTree) (ls : List Line) (m : Process) (p : Proc Frame) (i : ℕ) (e : Entry) (f : Frame) (x : Scan) (code : Code)
    (root : Ident) (fields : List Ident) (aim : Aim) (q : Slotted) (field : List ℕ → Option ℕ) → RepresentsActor r ls x m p i e f
    → place_named root.name ≡ Some q → HasPlace f q → aim.place ≡ number_in (length f.code.slots) q
    → fields_of field fields ≡ Some aim.path.items → IsNumbering r.records field (places_in code.fields)
    → field_path (places_in code.fields) aim.path.items (option_map value_of (place_held i aim.place m.heap))
    ≡ read_in r.records (look f.mem root.name) fields
