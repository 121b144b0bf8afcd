-- What the instructions of a class have to do with types and with each other: the rules on classes, instruction by instruction.
use Rattle.std.specs.Prelude.{◌≡◌, ◌≤◌, ◌⊎◌, ℕ, zero, suc, length, true, false, List, [], ◌∷◌, position, slice_get}
use Rattle.std.specs.Str.{bytes_eq}
use Rattle.std.specs.declared.option.Option.{Option}
use Rattle.std.specs.declared.option.Option.TheVariants.{None, Some}
use Rattle.flow_tree.specs.declared.ty.Ident.{Ident}
use Rattle.flow_tree.specs.Tree.{TypeTree, BoolType, VoidType, StringType, IntType, ErrorType, FutureType, PromiseType, PromiseStreamType, VectorType, ExprTree, ExprTrees}
use Rattle.flow_tree.specs.Decls.{ParamTree, SlotTree, RoutineTree}
use Rattle.flow_ast.specs.declared.predefined.Predefined.{Predefined}
use Rattle.flow_ast.specs.declared.predefined.Predefined.TheVariants as code
use Rattle.flow_ast.specs.declared.predefined.Method.{Method}
use Rattle.flow_ast.specs.declared.predefined.Method.TheVariants as method
use Rattle.flow_ast.specs.TypingNames.{named, call_names, method_names}
use Rattle.flow_ast.specs.Typing.{Signature, signature, equality_type, is_there, is_nothing, types_in, all_without_effects, param_types, routine_named}
use Rattle.flow_ast.specs.Fits.{scope_over, path_type, Yields, FunctionsFit}
use Rattle.flow_class.specs.declared.class.Slotted.{Slotted}
use Rattle.flow_class.specs.declared.class.Slotted.TheVariants.{Local}
use Rattle.flow_class.specs.Classes.{CatcherTree, InstrTree, SetInstr, EffectInstr, NewInstr, ActInstr, DropInstr, LastTree, GotoLast, PassLast, TestLast, ChooseLast, ReturnLast, ThrowLast, CallbackTree, ClassTree, RawTree}
use Rattle.flow_class.specs.Code.{Body, Last, Nothing, fetch, catcher_at, callback_at, type_at}
use Rattle.flow_valid.specs.Validity.{operand_type}
use Rattle.flow_valid.specs.Filling.{among, reads, ReadsFilled}
use Rattle.flow_meaning.specs.Evaluating.{Effectful, World, Actor, effect_in, before_last, last_of}
use Rattle.flow_meaning.specs.Class.{class_names}
use Rattle.flow_progress.specs.Places.{AreNamed, class_vars}

-- the types of a class's parameters, which are its first slots
abbrev pub first_types : ℕ → List SlotTree → List TypeTree
first_types n [] = []
first_types zero (s ∷ ss) = []
first_types (suc n) (s ∷ ss) = s.ty ∷ first_types n ss

-- what a branch takes: a value of its place's type, or of `Void`
abbrev pub takes_type : ClassTree → Option Slotted → Option TypeTree
takes_type c None = Some VoidType
takes_type c (Some p) = type_at c p

-- what a method sends, or makes of a vector, by the types of its arguments; and what is printed
abbrev pub MessageFits : Method → TypeTree → List TypeTree → Type 0
MessageFits method.Send (PromiseType t) ts = ts ≡ t ∷ []
MessageFits method.Send (PromiseStreamType t) ts = ts ≡ t ∷ []
MessageFits method.SendError (PromiseType t) ts = ts ≡ ErrorType ∷ []
MessageFits method.SendError (PromiseStreamType t) ts = ts ≡ ErrorType ∷ []
MessageFits method.Cancel (FutureType t) ts = ts ≡ []
MessageFits method.PushBack (VectorType t) ts = ts ≡ t ∷ []
MessageFits method.Clear (VectorType t) ts = ts ≡ []
MessageFits _ _ ts = ⊥

abbrev pub Printable : List TypeTree → Type 0
Printable ts = (t : TypeTree) × (ts ≡ t ∷ []) × (is_there (equality_type t) ≡ true)

module _ (r : RawTree) (actors : List RoutineTree) (c : ClassTree) (vars : List ParamTree) where
  abbrev pub Typed : ExprTree → TypeTree → Type 0
  Typed e t = Yields r.records r.functions actors vars e t

  abbrev pub AllTyped : ExprTrees → List TypeTree → Type 0
  AllTyped es ts =
      (types_in (scope_over r.records r.functions actors vars) es ≡ Some ts)
      × (all_without_effects (scope_over r.records r.functions actors vars) es ≡ true)

  -- an effect gives a value of this type from arguments of these types
  abbrev pub EffectGives : Effectful → List TypeTree → TypeTree → Type 0
  EffectGives (World p) ts t = (s : Signature) × (signature p ≡ Some s) × (s.params ≡ ts) × (s.gives ≡ t)
  EffectGives (Actor k) ts t =
      (d : ClassTree) × (slice_get r.classes k ≡ Some d) × (first_types d.params d.slots ≡ ts) × (is_nothing d.returns ≡ false)
      × (FutureType d.returns ≡ t)

  pub record EffectFits (e : ExprTree) (t : TypeTree) : Type 0 where
    pub effect : Effectful
    pub args : ExprTrees
    pub is : effect_in (class_names r) e ≡ Some (effect, args)
    pub types : List TypeTree
    pub typed : AllTyped args types
    pub gives : EffectGives effect types t

  -- a call by a name: a predefined one, of a function, or else of a void class
  abbrev pub FunctionFits : Ident → List TypeTree → Type 0
  FunctionFits f ts = (g : RoutineTree) × (routine_named r.functions f.name ≡ Some g) × (param_types g.params ≡ ts)

  pub record VoidFits (f : Ident) (ts : List TypeTree) : Type 0 where
    pub place : ℕ
    pub class : ClassTree
    pub no_function : routine_named r.functions f.name ≡ None
    pub named : position (bytes_eq f.name) (class_names r).actors ≡ Some place
    pub is : slice_get r.classes place ≡ Some class
    pub takes : first_types class.params class.slots ≡ ts
    pub is_void : is_nothing class.returns ≡ true

  abbrev pub SayFits : Option Predefined → Ident → List TypeTree → Type 0
  SayFits (Some code.Trace) f ts = Printable ts
  SayFits (Some code.SendTo) f ts = ts ≡ IntType ∷ IntType ∷ StringType ∷ []
  SayFits (Some _) f ts = ⊥
  SayFits None f ts = FunctionFits f ts ⊎ VoidFits f ts

  abbrev pub CallFits : List Ident → List TypeTree → Type 0
  CallFits [] ts = ⊥
  CallFits (f ∷ []) ts = SayFits (named call_names f.name) f ts
  CallFits (x ∷ (y ∷ ys)) ts =
      (t : TypeTree) × (m : Method) × (path_type r.records vars (x ∷ before_last y ys) ≡ Some t)
      × (named method_names (last_of y ys).name ≡ Some m) × MessageFits m t ts

  abbrev pub InstrFits : InstrTree → Type 0
  InstrFits (SetInstr path e) = (t : TypeTree) × (path_type r.records vars path ≡ Some t) × Typed e t
  InstrFits (EffectInstr path e) = (t : TypeTree) × (path_type r.records vars path ≡ Some t) × EffectFits e t
  InstrFits (NewInstr p) =
      (t : TypeTree) × (type_at c p ≡ Some t)
      × ((u : TypeTree) × ((t ≡ PromiseType u) ⊎ ((t ≡ PromiseStreamType u) ⊎ (t ≡ VectorType u))))
  InstrFits (ActInstr path es) = (ts : List TypeTree) × AllTyped es ts × CallFits path ts
  InstrFits (DropInstr ns) = Unit {0}

  -- an operand is an effect, or an expression without effects
  pub record BranchFits (k : CallbackTree) : Type 0 where
    pub takes : TypeTree
    pub into : takes_type c k.into ≡ Some takes
    pub goes : fetch c k.block 0 ≡ Nothing → ⊥
    pub effects : (g : Effectful × ExprTrees) → effect_in (class_names r) k.operand ≡ Some g
        → EffectFits k.operand (operand_type k.next takes)
    pub value : effect_in (class_names r) k.operand ≡ None → Typed k.operand (operand_type k.next takes)

  abbrev pub IsBlock : ℕ → Type 0
  IsBlock b = fetch c b 0 ≡ Nothing → ⊥

  -- a result of the class's type is given, and none by a void class
  abbrev pub ResultGiven : Option ExprTree → Type 0
  ResultGiven None = is_nothing c.returns ≡ true
  ResultGiven (Some e) = Typed e c.returns

  abbrev pub LastFits : LastTree → Type 0
  LastFits (GotoLast b) = IsBlock b
  LastFits (PassLast b) = IsBlock b
  LastFits (TestLast e a b) = Typed e BoolType × IsBlock a × IsBlock b
  LastFits (ChooseLast g) = (n : ℕ) (k : CallbackTree) → callback_at c g n ≡ Some k → BranchFits k
  LastFits (ReturnLast e) = ResultGiven e
  LastFits (ThrowLast e) = Typed e ErrorType

  -- A class keeps the rules.
  pub record KeepsRules : Type 0 where
    pub places : AreNamed c vars
    pub params : c.params ≤ length c.slots
    pub begins : fetch c 0 0 ≡ Nothing → ⊥
    pub instructions : (b n : ℕ) (i : InstrTree) → fetch c b n ≡ Body i → InstrFits i
    pub lasts : (b n : ℕ) (l : LastTree) → fetch c b n ≡ Last l → LastFits l
    pub catchers : (b : ℕ) (k : CatcherTree) → catcher_at c b ≡ Some k
        → IsBlock k.block × ((n : ℕ) → k.error ≡ Some n → type_at c (Local n) ≡ Some ErrorType)
    pub known : (b n : ℕ) (q : Slotted) → among (reads c (fetch c b n)) q ≡ true → (t : TypeTree) × (type_at c q ≡ Some t)
    pub filled : ReadsFilled c

-- all classes keep the rules, and the functions are well typed
pub record ClassRules (r : RawTree) (actors : List RoutineTree) : Type 0 where
  pub classes : (k : ℕ) (c : ClassTree) → slice_get r.classes k ≡ Some c → KeepsRules r actors c (class_vars c)
  pub functions : FunctionsFit r.records r.functions actors
