-- The types of expressions.
use Rattle.std.specs.Prelude.{ℕ, Bool, true, false, ◌&&◌, not, List, [], ◌∷◌, map, find, codes, if◌then◌else◌}
use Rattle.std.specs.Option.{option_map, option_and_then}
use Rattle.std.specs.Str.{bytes_eq}
use Rattle.std.specs.declared.option.Option.{Option}
use Rattle.std.specs.declared.option.Option.TheVariants.{None, Some}
use Rattle.flow_tree.specs.declared.expr.Op.{Op}
use Rattle.flow_tree.specs.declared.expr.Op.TheVariants.{Or, And, Eq, Ne, Lt, Le, Gt, Ge, Add, Sub, Mul, Div, Rem}
use Rattle.flow_ast.specs.declared.predefined.Predefined.{Predefined}
use Rattle.flow_ast.specs.declared.predefined.Predefined.TheVariants as predefined
use Rattle.flow_ast.specs.declared.predefined.Method.{Method}
use Rattle.flow_ast.specs.declared.predefined.Method.TheVariants as method
use Rattle.flow_tree.specs.Tree.{TypeTree, IntType, BoolType, StringType, VoidType, ErrorType, NamedType, FutureType, FutureStreamType, PromiseType, PromiseStreamType, VectorType, NothingType, ExprTree, ExprTrees, IntExpr, TextExpr, BoolExpr, VoidExpr, VarExpr, CallExpr, FieldExpr, MethodExpr, NotExpr, NegExpr, BinaryExpr, ParenExpr, NoExprs, MoreExprs}
use Rattle.flow_tree.specs.Decls.{ParamTree, RecordTree, RoutineTree}
use Rattle.flow_ast.specs.TypingNames.{named, selected, call_names, constant_names}

-- what is in force where an expression stands
pub record ScopeTree : Type 0 where
  pub records : List RecordTree
  pub functions : List RoutineTree
  pub actors : List RoutineTree
  pub vars : List ParamTree

-- what can be called: the types of its parameters, and what it gives
pub record Signature : Type 0 where
  pub params : List TypeTree
  pub gives : TypeTree

-- the first of two that is there
abbrev pub or_else : {A : Type 0} → Option A → Option A → Option A
or_else None y = y
or_else (Some x) y = Some x

abbrev pub takes : List TypeTree → TypeTree → Option Signature
takes params gives = Some (record { params = params; gives = gives })

-- the calls and effects; a statement call gives nothing
abbrev pub signature : Predefined → Option Signature
signature predefined.ToString = takes (IntType ∷ []) StringType
signature predefined.ToInt = takes (StringType ∷ []) IntType
signature predefined.Now = takes [] IntType
signature predefined.EndOfStream = takes [] ErrorType
signature predefined.TimedOut = takes [] ErrorType
signature predefined.BrokenPromise = takes [] ErrorType
signature predefined.OperationCancelled = takes [] ErrorType
signature predefined.ActorCancelled = takes [] ErrorType
signature predefined.Error = takes (IntType ∷ []) ErrorType
signature predefined.RandomInt = takes (IntType ∷ IntType ∷ []) IntType
signature predefined.Delay = takes (IntType ∷ []) (FutureType VoidType)
signature predefined.Never = takes [] (FutureType VoidType)
signature predefined.Listen = takes (IntType ∷ []) (FutureStreamType (NamedType (codes "Packet")))
signature predefined.ReadFile = takes (StringType ∷ IntType ∷ IntType ∷ []) (FutureType StringType)
signature predefined.WriteFile = takes (StringType ∷ IntType ∷ StringType ∷ []) (FutureType VoidType)
signature predefined.SyncFile = takes (StringType ∷ []) (FutureType VoidType)
signature predefined.FileSize = takes (StringType ∷ []) (FutureType IntType)
signature predefined.Trace = None
signature predefined.SendTo = None

-- what has an effect, and so may stand at some places alone
abbrev pub is_effect : Predefined → Bool
is_effect predefined.RandomInt = true
is_effect predefined.Delay = true
is_effect predefined.Never = true
is_effect predefined.Listen = true
is_effect predefined.ReadFile = true
is_effect predefined.WriteFile = true
is_effect predefined.SyncFile = true
is_effect predefined.FileSize = true
is_effect _ = false

-- the methods on an error, a text, a future, a promise, and the promise side of a stream
abbrev pub error_method : Method → Option Signature
error_method method.Code = takes [] IntType
error_method _ = None

abbrev pub text_method : Method → Option Signature
text_method method.Size = takes [] IntType
text_method method.Substr = takes (IntType ∷ IntType ∷ []) StringType
text_method _ = None

abbrev pub future_method : TypeTree → Method → Option Signature
future_method t method.IsReady = takes [] BoolType
future_method t method.IsError = takes [] BoolType
future_method t method.Get = takes [] t
future_method t _ = None

abbrev pub promise_method : TypeTree → Method → Option Signature
promise_method t method.GetFuture = takes [] (FutureType t)
promise_method t method.IsSet = takes [] BoolType
promise_method t _ = None

abbrev pub stream_method : TypeTree → Method → Option Signature
stream_method t method.GetFuture = takes [] (FutureStreamType t)
stream_method t _ = None

-- an index takes an int, and gives an element
abbrev pub vector_method : TypeTree → Method → Option Signature
vector_method t method.Size = takes [] IntType
vector_method t method.At = takes (IntType ∷ []) t
vector_method t _ = None

-- the methods by the type of their base
abbrev pub method_signature : TypeTree → Method → Option Signature
method_signature ErrorType m = error_method m
method_signature StringType m = text_method m
method_signature (FutureType t) m = future_method t m
method_signature (PromiseType t) m = promise_method t m
method_signature (PromiseStreamType t) m = stream_method t m
method_signature (VectorType t) m = vector_method t m
method_signature _ m = None

-- the fields of the predefined record, in order
abbrev pub packet_fields : List (List ℕ × TypeTree)
packet_fields = (codes "from", IntType) ∷ (codes "port", IntType) ∷ (codes "text", StringType) ∷ []

abbrev pub is_packet : List ℕ → Bool
is_packet x = bytes_eq x (codes "Packet")

-- the first record, routine or variable of a name
abbrev pub record_named : List RecordTree → List ℕ → Option RecordTree
record_named rs x = find (λ (r : RecordTree). bytes_eq r.name.name x) rs

abbrev pub routine_named : List RoutineTree → List ℕ → Option RoutineTree
routine_named fs x = find (λ (f : RoutineTree). bytes_eq f.name.name x) fs

abbrev pub param_named : List ParamTree → List ℕ → Option ParamTree
param_named ps x = find (λ (p : ParamTree). bytes_eq p.name.name x) ps

abbrev pub param_types : List ParamTree → List TypeTree
param_types ps = map (λ (p : ParamTree). p.ty) ps

-- a record is called with its fields in order, the predefined one before those of the program
abbrev pub record_call : List RecordTree → List ℕ → Option Signature
record_call rs x =
    if is_packet x
    then takes (map (λ (f : List ℕ × TypeTree). f.1) packet_fields) (NamedType x)
    else option_map (λ (r : RecordTree). record { params = param_types r.fields; gives = NamedType x }) (record_named rs x)

abbrev pub function_call : List RoutineTree → List ℕ → Option Signature
function_call fs x = option_map (λ (f : RoutineTree). record { params = param_types f.params; gives = f.returns }) (routine_named fs x)

-- whether it is the result of a void actor
abbrev pub is_nothing : TypeTree → Bool
is_nothing NothingType = true
is_nothing _ = false

-- an actor's call gives the future of its result; that of a void actor gives nothing
abbrev pub actor_gives : List TypeTree → TypeTree → Option Signature
actor_gives params NothingType = None
actor_gives params t = takes params (FutureType t)

abbrev pub actor_call : List RoutineTree → List ℕ → Option Signature
actor_call fs x = option_and_then (λ (f : RoutineTree). actor_gives (param_types f.params) f.returns) (routine_named fs x)

-- what the program declares by a name: a record, else a function, else an actor
abbrev pub declared_call : ScopeTree → List ℕ → Option Signature
declared_call s x = or_else (record_call s.records x) (or_else (function_call s.functions x) (actor_call s.actors x))

-- a predefined name comes before those of the program
abbrev pub call_in : ScopeTree → List ℕ → Option Predefined → Option Signature
call_in s x None = declared_call s x
call_in s x (Some p) = signature p

abbrev pub call_signature : ScopeTree → List ℕ → Option Signature
call_signature s x = call_in s x (named call_names x)

-- a constant is an int, and comes before a variable
abbrev pub variable_in : List ParamTree → List ℕ → Option ℕ → Option TypeTree
variable_in ps x None = option_map (λ (p : ParamTree). p.ty) (param_named ps x)
variable_in ps x (Some n) = Some IntType

abbrev pub variable_type : ScopeTree → List ℕ → Option TypeTree
variable_type s x = variable_in s.vars x (named constant_names x)

-- whether two types are the same
abbrev pub same_type : TypeTree → TypeTree → Bool
same_type IntType IntType = true
same_type BoolType BoolType = true
same_type StringType StringType = true
same_type VoidType VoidType = true
same_type ErrorType ErrorType = true
same_type (NamedType x) (NamedType y) = bytes_eq x y
same_type (FutureType t) (FutureType u) = same_type t u
same_type (FutureStreamType t) (FutureStreamType u) = same_type t u
same_type (PromiseType t) (PromiseType u) = same_type t u
same_type (PromiseStreamType t) (PromiseStreamType u) = same_type t u
same_type (VectorType t) (VectorType u) = same_type t u
same_type NothingType NothingType = true
same_type t u = false

-- whether two lists of types are the same, of equal length
abbrev pub same_types : List TypeTree → List TypeTree → Bool
same_types [] [] = true
same_types [] (u ∷ us) = false
same_types (t ∷ ts) [] = false
same_types (t ∷ ts) (u ∷ us) = same_type t u && same_types ts us

-- a call with arguments of these types gives its result where they are those of the parameters
abbrev pub applied : Option Signature → List TypeTree → Option TypeTree
applied None ts = None
applied (Some s) ts = if same_types s.params ts then Some s.gives else None

-- a field of a record
abbrev pub declared_field : Option RecordTree → List ℕ → Option TypeTree
declared_field None x = None
declared_field (Some r) x = option_map (λ (p : ParamTree). p.ty) (param_named r.fields x)

abbrev pub record_field : List RecordTree → List ℕ → List ℕ → Option TypeTree
record_field rs r x = if is_packet r then named packet_fields x else declared_field (record_named rs r) x

abbrev pub field_type : List RecordTree → TypeTree → List ℕ → Option TypeTree
field_type rs (NamedType r) x = record_field rs r x
field_type rs _ x = None

abbrev pub method_in : TypeTree → Option Method → Option Signature
method_in t None = None
method_in t (Some m) = method_signature t m

-- what a sign gives between two operands of this type
abbrev pub sum_type : TypeTree → Option TypeTree
sum_type IntType = Some IntType
sum_type StringType = Some StringType
sum_type _ = None

abbrev pub order_type : TypeTree → Option TypeTree
order_type IntType = Some BoolType
order_type StringType = Some BoolType
order_type _ = None

abbrev pub equality_type : TypeTree → Option TypeTree
equality_type IntType = Some BoolType
equality_type BoolType = Some BoolType
equality_type StringType = Some BoolType
equality_type _ = None

abbrev pub int_only : TypeTree → Option TypeTree
int_only IntType = Some IntType
int_only _ = None

abbrev pub bool_only : TypeTree → Option TypeTree
bool_only BoolType = Some BoolType
bool_only _ = None

abbrev pub sign_type : Op → TypeTree → Option TypeTree
sign_type Or t = bool_only t
sign_type And t = bool_only t
sign_type Eq t = equality_type t
sign_type Ne t = equality_type t
sign_type Lt t = order_type t
sign_type Le t = order_type t
sign_type Gt t = order_type t
sign_type Ge t = order_type t
sign_type Add t = sum_type t
sign_type Sub t = int_only t
sign_type Mul t = int_only t
sign_type Div t = int_only t
sign_type Rem t = int_only t

-- a type is found from those of the parts, where they have one
abbrev pub with_type : {A : Type 0} → Option A → (A → Option TypeTree) → Option TypeTree
with_type None f = None
with_type (Some t) f = f t

abbrev pub binary_type : Op → TypeTree → TypeTree → Option TypeTree
binary_type op t u = if same_type t u then sign_type op t else None

abbrev pub more_types : Option TypeTree → Option (List TypeTree) → Option (List TypeTree)
more_types (Some t) (Some ts) = Some (t ∷ ts)
more_types _ _ = None

-- the type of an expression, where it has one, and those of arguments, where each has one
abbrev mutual
  pub type_in : ScopeTree → ExprTree → Option TypeTree
  type_in s (IntExpr n) = Some IntType
  type_in s (TextExpr t) = Some StringType
  type_in s (BoolExpr b) = Some BoolType
  type_in s VoidExpr = Some VoidType
  type_in s (VarExpr x) = variable_type s x.name
  type_in s (CallExpr f xs) = with_type (types_in s xs) (applied (call_signature s f.name))
  type_in s (FieldExpr e x) = with_type (type_in s e) (λ t. field_type s.records t x.name)
  type_in s (MethodExpr e m xs) =
      with_type (type_in s e) (λ t. with_type (types_in s xs) (applied (method_in t (selected m))))
  type_in s (NotExpr e) = with_type (type_in s e) bool_only
  type_in s (NegExpr e) = with_type (type_in s e) int_only
  type_in s (BinaryExpr op a b) = with_type (type_in s a) (λ t. with_type (type_in s b) (binary_type op t))
  type_in s (ParenExpr e) = type_in s e

  pub types_in : ScopeTree → ExprTrees → Option (List TypeTree)
  types_in s NoExprs = Some []
  types_in s (MoreExprs e es) = more_types (type_in s e) (types_in s es)

-- whether a call has an effect: a predefined effect, or an actor's call
abbrev pub is_there : {A : Type 0} → Option A → Bool
is_there None = false
is_there (Some x) = true

abbrev pub effect_in : ScopeTree → List ℕ → Option Predefined → Bool
effect_in s x (Some p) = is_effect p
effect_in s x None =
    not (is_there (record_call s.records x)) && not (is_there (routine_named s.functions x)) && is_there (routine_named s.actors x)

abbrev pub effect_call : ScopeTree → List ℕ → Bool
effect_call s x = effect_in s x (named call_names x)

-- an expression is without effects where no call in it has one
abbrev mutual
  pub without_effects : ScopeTree → ExprTree → Bool
  without_effects s (IntExpr n) = true
  without_effects s (TextExpr t) = true
  without_effects s (BoolExpr b) = true
  without_effects s VoidExpr = true
  without_effects s (VarExpr x) = true
  without_effects s (CallExpr f xs) = not (effect_call s f.name) && all_without_effects s xs
  without_effects s (FieldExpr e x) = without_effects s e
  without_effects s (MethodExpr e m xs) = without_effects s e && all_without_effects s xs
  without_effects s (NotExpr e) = without_effects s e
  without_effects s (NegExpr e) = without_effects s e
  without_effects s (BinaryExpr op a b) = without_effects s a && without_effects s b
  without_effects s (ParenExpr e) = without_effects s e

  pub all_without_effects : ScopeTree → ExprTrees → Bool
  all_without_effects s NoExprs = true
  all_without_effects s (MoreExprs e es) = without_effects s e && all_without_effects s es
