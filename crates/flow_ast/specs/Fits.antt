-- What fits: which expressions, statements and functions are well typed, in terms of the types of expressions.
use Rattle.std.specs.Prelude.{◌≡◌, ℕ, Bool, true, false, List, [], ◌∷◌, ◌++◌, slice_get}
use Rattle.std.specs.Option.{option_map}
use Rattle.std.specs.declared.option.Option.{Option}
use Rattle.std.specs.declared.option.Option.TheVariants.{None, Some}
use Rattle.flow_tree.specs.declared.ty.Ident.{Ident}
use Rattle.flow_tree.specs.declared.expr.Op.TheVariants.{Add, Sub}
use Rattle.flow_tree.specs.Tree.{TypeTree, IntType, BoolType, StringType, ErrorType, VectorType, ExprTree, ExprTrees}
use Rattle.flow_tree.specs.Body.{IntoTree, ChangeTree, PlusChange, MinusChange, UpChange, DownChange, Body, End, BlockStmt, IfStmt, IfElseStmt, WhileStmt, ForStmt, LoopStmt, BreakStmt, ContinueStmt, ReturnStmt, ThrowStmt, TryStmt, ChooseStmt, DeclareStmt, AssignStmt, ModifyStmt, CallStmt, WaitStmt}
use Rattle.flow_tree.specs.Decls.{ParamTree, RecordTree, RoutineTree}
use Rattle.flow_ast.specs.Typing.{ScopeTree, routine_named, param_named, param_types, field_type, sign_type, same_types, type_in, types_in, without_effects, all_without_effects}
use Rattle.flow_ast.specs.Leaving.{reaches_end}

-- the names and types that the statements of a body declare in its own scope
abbrev pub declared_in : Body → List ParamTree
declared_in End = []
declared_in (BlockStmt at b k) = declared_in k
declared_in (IfStmt at e b k) = declared_in k
declared_in (IfElseStmt at e b c k) = declared_in k
declared_in (WhileStmt at e b k) = declared_in k
declared_in (ForStmt at i e t b k) = declared_in k
declared_in (LoopStmt at b k) = declared_in k
declared_in (BreakStmt at k) = declared_in k
declared_in (ContinueStmt at k) = declared_in k
declared_in (ReturnStmt at e k) = declared_in k
declared_in (ThrowStmt at e k) = declared_in k
declared_in (TryStmt at b q x h k) = declared_in k
declared_in (ChooseStmt at bs k) = declared_in k
declared_in (DeclareStmt at i e k) = record { ty = i.ty; name = i.name } ∷ declared_in k
declared_in (AssignStmt at xs e k) = declared_in k
declared_in (ModifyStmt at xs c k) = declared_in k
declared_in (CallStmt at xs es k) = declared_in k
declared_in (WaitStmt at w k) = declared_in k

module _ (rs : List RecordTree) where
  -- the type of what a path leads to: a variable, or a field in it
  abbrev pub fields_type : Option TypeTree → List Ident → Option TypeTree
  fields_type None xs = None
  fields_type (Some t) [] = Some t
  fields_type (Some t) (x ∷ xs) = fields_type (field_type rs t x.name) xs

  abbrev pub path_type : List ParamTree → List Ident → Option TypeTree
  path_type vars [] = None
  path_type vars (x ∷ xs) = fields_type (option_map (λ (p : ParamTree). p.ty) (param_named vars x.name)) xs

-- the types whose value without one being given is a plain one
abbrev pub has_plain_default : TypeTree → Bool
has_plain_default IntType = true
has_plain_default BoolType = true
has_plain_default StringType = true
has_plain_default (VectorType t) = true
has_plain_default _ = false

module _ (rs : List RecordTree) (fs actors : List RoutineTree) where
  -- what is in force over these variables
  abbrev pub scope_over : List ParamTree → ScopeTree
  scope_over vars = record { records = rs; functions = fs; actors = actors; vars = vars }

  -- an expression has a type and no effects
  abbrev pub Yields : List ParamTree → ExprTree → TypeTree → Type 0
  Yields vars e t = (type_in (scope_over vars) e ≡ Some t) × (without_effects (scope_over vars) e ≡ true)

  abbrev pub MaybeYields : List ParamTree → Option ExprTree → TypeTree → Type 0
  MaybeYields vars None t = Unit {0}
  MaybeYields vars (Some e) t = Yields vars e t

  -- a change fits what has this type: `x += e` is `x = x + (e)`
  abbrev pub ChangeFits : List ParamTree → ChangeTree → TypeTree → Type 0
  ChangeFits vars (PlusChange e) t = (sign_type Add t ≡ Some t) × Yields vars e t
  ChangeFits vars (MinusChange e) t = (sign_type Sub t ≡ Some t) × Yields vars e t
  ChangeFits vars UpChange t = t ≡ IntType
  ChangeFits vars DownChange t = t ≡ IntType

  -- a declaration gives a value of its type, or is of one that has a value without
  abbrev pub DeclareFits : List ParamTree → IntoTree → Option ExprTree → Type 0
  DeclareFits vars i None = has_plain_default i.ty ≡ true
  DeclareFits vars i (Some e) = Yields vars e i.ty

  -- a call of a function as a statement
  abbrev pub CallFits : List ParamTree → List Ident → ExprTrees → Type 0
  CallFits vars xs es =
      (x : Ident) × (f : RoutineTree) × (ts : List TypeTree)
      × (xs ≡ x ∷ []) × (routine_named fs x.name ≡ Some f) × (types_in (scope_over vars) es ≡ Some ts)
      × (same_types (param_types f.params) ts ≡ true) × (all_without_effects (scope_over vars) es ≡ true)

  -- `throw;` stands in a catch, whose variable is in force
  abbrev pub CaughtFits : List ParamTree → Option (List ℕ) → Type 0
  CaughtFits vars None = ⊥
  CaughtFits vars (Some x) = (p : ParamTree) × (param_named vars x ≡ Some p) × (p.ty ≡ ErrorType)

  abbrev pub ThrowFits : List ParamTree → Option (List ℕ) → Option ExprTree → Type 0
  ThrowFits vars caught None = CaughtFits vars caught
  ThrowFits vars caught (Some e) = Yields vars e ErrorType

  -- a function returns a value of its type
  abbrev pub ReturnFits : List ParamTree → Option ExprTree → TypeTree → Type 0
  ReturnFits vars None r = ⊥
  ReturnFits vars (Some e) r = Yields vars e r

  -- Each statement of a body in a function that returns this type is well typed over the variables in
  -- force, in a loop or not, and with the variable of the innermost catch around it.
  abbrev pub BodyFits : TypeTree → Bool → Option (List ℕ) → List ParamTree → Body → Type 0
  BodyFits r loop caught vars End = Unit {0}
  BodyFits r loop caught vars (BlockStmt at b k) = BodyFits r loop caught vars b × BodyFits r loop caught vars k
  BodyFits r loop caught vars (IfStmt at e b k) = Yields vars e BoolType × BodyFits r loop caught vars b × BodyFits r loop caught vars k
  BodyFits r loop caught vars (IfElseStmt at e b c k) =
      Yields vars e BoolType × BodyFits r loop caught vars b × BodyFits r loop caught vars c × BodyFits r loop caught vars k
  BodyFits r loop caught vars (WhileStmt at e b k) = Yields vars e BoolType × BodyFits r true caught vars b × BodyFits r loop caught vars k
  BodyFits r loop caught vars (ForStmt at i e t b k) =
      BodyFits r false caught vars i
      × MaybeYields (vars ++ declared_in i) e BoolType
      × BodyFits r false caught (vars ++ declared_in i) t
      × (declared_in t ≡ [])
      × BodyFits r true caught (vars ++ declared_in i) b
      × BodyFits r loop caught vars k
  BodyFits r loop caught vars (LoopStmt at b k) = BodyFits r true caught vars b × BodyFits r loop caught vars k
  BodyFits r loop caught vars (BreakStmt at k) = (loop ≡ true) × BodyFits r loop caught vars k
  BodyFits r loop caught vars (ContinueStmt at k) = (loop ≡ true) × BodyFits r loop caught vars k
  BodyFits r loop caught vars (ReturnStmt at e k) = ReturnFits vars e r × BodyFits r loop caught vars k
  BodyFits r loop caught vars (ThrowStmt at e k) = ThrowFits vars caught e × BodyFits r loop caught vars k
  BodyFits r loop caught vars (TryStmt at b q x h k) =
      BodyFits r loop caught vars b
      × BodyFits r loop (Some x.name) (vars ++ record { ty = ErrorType; name = x } ∷ []) h
      × BodyFits r loop caught vars k
  BodyFits r loop caught vars (ChooseStmt at bs k) = ⊥
  BodyFits r loop caught vars (DeclareStmt at i e k) =
      DeclareFits vars i e × BodyFits r loop caught (vars ++ record { ty = i.ty; name = i.name } ∷ []) k
  BodyFits r loop caught vars (AssignStmt at xs e k) =
      ((t : TypeTree) × (path_type rs vars xs ≡ Some t) × Yields vars e t) × BodyFits r loop caught vars k
  BodyFits r loop caught vars (ModifyStmt at xs c k) =
      ((t : TypeTree) × (path_type rs vars xs ≡ Some t) × ChangeFits vars c t) × BodyFits r loop caught vars k
  BodyFits r loop caught vars (CallStmt at xs es k) = CallFits vars xs es × BodyFits r loop caught vars k
  BodyFits r loop caught vars (WaitStmt at w k) = ⊥

  -- a function is well typed: its statements over its parameters are, and its end isn't reached
  abbrev pub FunctionFits : RoutineTree → Type 0
  FunctionFits f = BodyFits f.returns false None f.params f.body × (reaches_end f.body ≡ false)

-- the functions of a program are well typed
abbrev pub FunctionsFit : List RecordTree → List RoutineTree → List RoutineTree → Type 0
FunctionsFit rs fs actors = (k : ℕ) (f : RoutineTree) → slice_get fs k ≡ Some f → FunctionFits rs fs actors f
