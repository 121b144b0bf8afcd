-- Calls as statements in an actor: what is called, and that the arguments fit it.
use Rattle.std.specs.Prelude.{◌≡◌, ◌⊎◌, ℕ, true, List, [], ◌∷◌}
use Rattle.std.specs.declared.option.Option.{Option}
use Rattle.std.specs.declared.option.Option.TheVariants.{None, Some}
use Rattle.flow_tree.specs.declared.ty.Ident.{Ident}
use Rattle.flow_tree.specs.Tree.{TypeTree, IntType, BoolType, StringType, ErrorType, FutureType, PromiseType, PromiseStreamType, VectorType, ExprTrees}
use Rattle.flow_tree.specs.Decls.{ParamTree, RoutineTree, DeclTree}
use Rattle.flow_ast.specs.declared.predefined.Predefined.{Predefined}
use Rattle.flow_ast.specs.declared.predefined.Predefined.TheVariants.{Trace, SendTo}
use Rattle.flow_ast.specs.declared.predefined.Method.{Method}
use Rattle.flow_ast.specs.declared.predefined.Method.TheVariants.{Send, SendError, Cancel, PushBack, Clear}
use Rattle.flow_ast.specs.TypingNames.{named, call_names, method_names}
use Rattle.flow_ast.specs.Typing.{routine_named, param_types, is_nothing, equality_type, variable_type, types_in, all_without_effects}
use Rattle.flow_ast.specs.Fits.{fields_type}
use Rattle.flow_rules.specs.Items.{ends_of}
use Rattle.flow_meaning.specs.Source.{records_in, functions_in, actors_in}
use Rattle.flow_typing_laws.specs.Typing.Scopes.{scope_in}

module _ (ds : List DeclTree) where
  -- arguments have these types, as many as there are, and no effects
  abbrev pub HaveTypes : List ParamTree → ExprTrees → List TypeTree → Type 0
  HaveTypes vars es ts = (types_in (scope_in ds vars) es ≡ Some ts) × (all_without_effects (scope_in ds vars) es ≡ true)

  -- a function of the program, or else a void actor, takes what its parameters are
  abbrev pub FunctionFits : List ParamTree → List ℕ → ExprTrees → Type 0
  FunctionFits vars f es = (g : RoutineTree) × (routine_named (functions_in ds) f ≡ Some g) × HaveTypes vars es (param_types g.params)

  abbrev pub VoidFits : List ParamTree → List ℕ → ExprTrees → Type 0
  VoidFits vars f es =
      (a : RoutineTree) × (routine_named (functions_in ds) f ≡ None) × (routine_named (actors_in ds) f ≡ Some a)
      × (is_nothing a.returns ≡ true) × HaveTypes vars es (param_types a.params)

  -- one int, bool or string is traced; two ints and a string are sent to a port
  abbrev pub NameFits : List ParamTree → List ℕ → ExprTrees → Option Predefined → Type 0
  NameFits vars f es (Some Trace) = (t : TypeTree) × (equality_type t ≡ Some BoolType) × HaveTypes vars es (t ∷ [])
  NameFits vars f es (Some SendTo) = HaveTypes vars es (IntType ∷ IntType ∷ StringType ∷ [])
  NameFits vars f es (Some p) = ⊥
  NameFits vars f es None = FunctionFits vars f es ⊎ VoidFits vars f es

  -- a value of this type, or an error, is sent
  abbrev pub SendFits : List ParamTree → TypeTree → ExprTrees → Method → Type 0
  SendFits vars t es Send = HaveTypes vars es (t ∷ [])
  SendFits vars t es SendError = HaveTypes vars es (ErrorType ∷ [])
  SendFits vars t es m = ⊥

  abbrev pub CancelFits : List ParamTree → ExprTrees → Method → Type 0
  CancelFits vars es Cancel = HaveTypes vars es []
  CancelFits vars es m = ⊥

  abbrev pub GrowFits : List ParamTree → TypeTree → ExprTrees → Method → Type 0
  GrowFits vars t es PushBack = HaveTypes vars es (t ∷ [])
  GrowFits vars t es Clear = HaveTypes vars es []
  GrowFits vars t es m = ⊥

  -- on a promise or the promise side of a stream is sent, a future is cancelled, and a vector grows or is cleared
  abbrev pub MethodFits : List ParamTree → TypeTree → ExprTrees → Method → Type 0
  MethodFits vars (PromiseType t) es m = SendFits vars t es m
  MethodFits vars (PromiseStreamType t) es m = SendFits vars t es m
  MethodFits vars (FutureType t) es m = CancelFits vars es m
  MethodFits vars (VectorType t) es m = GrowFits vars t es m
  MethodFits vars t es m = ⊥

  -- what a method is called on: a variable or a constant, or a field in it
  abbrev pub base_type : List ParamTree → List Ident → Option TypeTree
  base_type vars [] = None
  base_type vars (x ∷ xs) = fields_type (records_in ds) (variable_type (scope_in ds vars) x.name) xs

  -- on the last name of a path, behind its base
  abbrev pub PathFits : List ParamTree → List Ident × Ident → ExprTrees → Type 0
  PathFits vars ends es =
      (t : TypeTree) × (m : Method)
      × (base_type vars ends.0 ≡ Some t) × (named method_names ends.1.name ≡ Some m) × MethodFits vars t es m

  -- a call as a statement: by a name, or of a method
  abbrev pub CallStands : List ParamTree → List Ident → ExprTrees → Type 0
  CallStands vars [] es = ⊥
  CallStands vars (x ∷ []) es = NameFits vars x.name es (named call_names x.name)
  CallStands vars (x ∷ (y ∷ ys)) es = PathFits vars (ends_of x (y ∷ ys)) es
