-- The least of the rules K1 to K6 that fails in an expression. A type is read by the form of an
-- expression as far as the form gives one: a call has its result's type even where its arguments are
-- wrong. What stands on an unknown name has none, and nothing that would need that type is judged.
use Rattle.std.specs.Prelude.{ℕ, suc, Bool, true, false, not, ◌&&◌, List, [], ◌∷◌, map, slice_get}
use Rattle.std.specs.Option.{option_map}
use Rattle.std.specs.declared.option.Option.{Option}
use Rattle.std.specs.declared.option.Option.TheVariants.{None, Some}
use Rattle.flow_tree.specs.declared.expr.Op.{Op}
use Rattle.flow_tree.specs.declared.expr.Op.TheVariants.{Add, Sub, Mul, Div, Rem}
use Rattle.flow_ast.specs.declared.predefined.Predefined.{Predefined}
use Rattle.flow_ast.specs.declared.predefined.Predefined.TheVariants as predefined
use Rattle.flow_ast.specs.declared.predefined.Method.{Method}
use Rattle.flow_ast.specs.declared.predefined.Method.TheVariants as method
use Rattle.flow_tree.specs.Tree.{Selector, ByName, ByIndex, TypeTree, IntType, BoolType, StringType, VoidType, ErrorType, NamedType, FutureType, PromiseType, PromiseStreamType, VectorType, NothingType, ExprTree, ExprTrees, IntExpr, TextExpr, BoolExpr, VoidExpr, VarExpr, CallExpr, FieldExpr, MethodExpr, NotExpr, NegExpr, BinaryExpr, ParenExpr, NoExprs, MoreExprs}
use Rattle.flow_ast.specs.TypingNames.{named, selected, call_names, method_names, constant_names}
use Rattle.flow_ast.specs.Typing.{Signature, signature, same_type, sign_type, binary_type, equality_type, method_in, with_type, is_there, is_nothing}
use Rattle.flow_rules.specs.declared.rule.SemanticRule.{SemanticRule}
use Rattle.flow_rules.specs.declared.rule.SemanticRule.TheVariants.{UnknownName, WrongType, WrongCount, EffectInside, NotInFunction, LostValue}
use Rattle.flow_rules.specs.Least.{lesser, unless}
use Rattle.flow_rules.specs.Known.{Meaning, RecordOf, FunctionOf, ActorOf}

-- where an expression stands: what the names at the top declare, the types that hold a reference, the
-- variables in force, and whether it stands in a function
pub record Setting : Type 0 where
  pub known : List ℕ → Option Meaning
  pub holds : TypeTree → Bool
  pub vars : List (List ℕ × TypeTree)
  pub plain : Bool

-- what an argument has to be: of a type, or of one that `trace` takes
pub data Need : Type 0 where
  Exactly : TypeTree → Need
  Traced : Need

-- what is called, by where it may stand: a value anywhere, a function of the program also as a
-- statement, `now` in actors, an effect in actors as a whole, and a statement call as a statement
pub data Kind : Type 0 where
  Value : Kind
  OfFunction : Kind
  Clock : Kind
  Effect : Kind
  Statement : Kind

-- what can be called: its arguments, what it gives, which a statement call doesn't, and its kind
pub record Callee : Type 0 where
  pub needs : List Need
  pub gives : Option TypeTree
  pub kind : Kind

abbrev pub callee : List TypeTree → TypeTree → Kind → Callee
callee ts t k = record { needs = map Exactly ts; gives = Some t; kind = k }

abbrev pub statement : List Need → Callee
statement ns = record { needs = ns; gives = None; kind = Statement }

abbrev pub predefined_kind : Predefined → Kind
predefined_kind predefined.Now = Clock
predefined_kind predefined.RandomInt = Effect
predefined_kind predefined.Delay = Effect
predefined_kind predefined.Never = Effect
predefined_kind predefined.Listen = Effect
predefined_kind predefined.ReadFile = Effect
predefined_kind predefined.WriteFile = Effect
predefined_kind predefined.SyncFile = Effect
predefined_kind predefined.FileSize = Effect
predefined_kind predefined.Trace = Statement
predefined_kind predefined.SendTo = Statement
predefined_kind _ = Value

-- the statement calls without a base
abbrev pub stated : Predefined → List Need
stated predefined.Trace = Traced ∷ []
stated predefined.SendTo = Exactly IntType ∷ Exactly IntType ∷ Exactly StringType ∷ []
stated _ = []

abbrev pub predefined_callee : Predefined → Option Signature → Callee
predefined_callee p None = statement (stated p)
predefined_callee p (Some g) = callee g.params g.gives (predefined_kind p)

-- the call of an actor is an effect; that of a void one has no type, as a statement call
abbrev pub actor_callee : List TypeTree → TypeTree → Callee
actor_callee ts NothingType = statement (map Exactly ts)
actor_callee ts t = callee ts (FutureType t) Effect

abbrev pub declared_callee : List ℕ → Meaning → Callee
declared_callee f (RecordOf fs) = callee (map (λ (r : List ℕ × TypeTree). r.1) fs) (NamedType f) Value
declared_callee f (FunctionOf ts t) = callee ts t OfFunction
declared_callee f (ActorOf ts t) = actor_callee ts t

-- what a name without a base calls
abbrev pub called_as : Setting → List ℕ → Option Predefined → Option Callee
called_as s f (Some p) = Some (predefined_callee p (signature p))
called_as s f None = option_map (declared_callee f) (s.known f)

abbrev pub called : Setting → List ℕ → Option Callee
called s f = called_as s f (named call_names f)

-- the statement calls on what sends, on a future, and on a vector
abbrev pub sends : TypeTree → Method → Option Callee
sends t method.Send = Some (statement (Exactly t ∷ []))
sends t method.SendError = Some (statement (Exactly ErrorType ∷ []))
sends t _ = None

abbrev pub cancels : Method → Option Callee
cancels method.Cancel = Some (statement [])
cancels _ = None

abbrev pub grows : TypeTree → Method → Option Callee
grows t method.PushBack = Some (statement (Exactly t ∷ []))
grows t method.Clear = Some (statement [])
grows t _ = None

abbrev pub stated_on : TypeTree → Method → Option Callee
stated_on (PromiseType t) m = sends t m
stated_on (PromiseStreamType t) m = sends t m
stated_on (FutureType t) m = cancels m
stated_on (VectorType t) m = grows t m
stated_on _ m = None

abbrev pub method_callee : TypeTree → Method → Option Signature → Option Callee
method_callee t m (Some g) = Some (callee g.params g.gives Value)
method_callee t m None = stated_on t m

abbrev pub called_by : TypeTree → Option Method → Option Callee
called_by t None = None
called_by t (Some m) = method_callee t m (method_in t (Some m))

-- what a name behind a base of this type calls
abbrev pub called_on : Option TypeTree → List ℕ → Option Callee
called_on None m = None
called_on (Some t) m = called_by t (named method_names m)

-- an index takes an int; on what is no vector it has no type, as a statement call has none
abbrev pub index_callee : Option Signature → Callee
index_callee (Some g) = callee g.params g.gives Value
index_callee None = statement (Exactly IntType ∷ [])

abbrev pub indexed_on : Option TypeTree → Option Callee
indexed_on None = None
indexed_on (Some t) = Some (index_callee (method_in t (selected ByIndex)))

-- what a selector behind a base of this type calls
abbrev pub selected_on : Option TypeTree → Selector → Option Callee
selected_on t (ByName x) = called_on t x.name
selected_on t ByIndex = indexed_on t

abbrev pub needs_of : Option Callee → List Need
needs_of None = []
needs_of (Some c) = c.needs

abbrev pub gives_of : Option Callee → Option TypeTree
gives_of None = None
gives_of (Some c) = c.gives

-- the type of a field
abbrev pub field_of : Option Meaning → List ℕ → Option TypeTree
field_of (Some (RecordOf fs)) x = named fs x
field_of _ x = None

abbrev pub field_form : Setting → TypeTree → List ℕ → Option TypeTree
field_form s (NamedType r) x = field_of (s.known r) x
field_form s _ x = None

-- a constant is an int, and comes before a variable
abbrev pub variable_as : Setting → List ℕ → Option ℕ → Option TypeTree
variable_as s x (Some n) = Some IntType
variable_as s x None = named s.vars x

abbrev pub variable_form : Setting → List ℕ → Option TypeTree
variable_form s x = variable_as s x (named constant_names x)

-- a sum has the type of its operands, of one of them where the other has none
abbrev pub sum_form : Option TypeTree → Option TypeTree → Option TypeTree
sum_form None None = None
sum_form None (Some u) = sign_type Add u
sum_form (Some t) None = sign_type Add t
sum_form (Some t) (Some u) = binary_type Add t u

abbrev pub sign_form : Op → Option TypeTree → Option TypeTree → Option TypeTree
sign_form Add t u = sum_form t u
sign_form Sub t u = Some IntType
sign_form Mul t u = Some IntType
sign_form Div t u = Some IntType
sign_form Rem t u = Some IntType
sign_form _ t u = Some BoolType

-- the type of an expression by its form
abbrev pub form : Setting → ExprTree → Option TypeTree
form s (IntExpr n) = Some IntType
form s (TextExpr t) = Some StringType
form s (BoolExpr b) = Some BoolType
form s VoidExpr = Some VoidType
form s (VarExpr x) = variable_form s x.name
form s (CallExpr f xs) = gives_of (called s f.name)
form s (FieldExpr e x) = with_type (form s e) (λ t. field_form s t x.name)
form s (MethodExpr e m xs) = gives_of (selected_on (form s e) m)
form s (NotExpr e) = Some BoolType
form s (NegExpr e) = Some IntType
form s (BinaryExpr op a b) = sign_form op (form s a) (form s b)
form s (ParenExpr e) = form s e

-- this type is wanted, where there is one
abbrev pub wants : Option TypeTree → TypeTree → Option SemanticRule
wants None u = None
wants (Some t) u = unless (same_type t u) WrongType

-- an argument fits what stands at its place, if something does
abbrev pub fits : Option TypeTree → Option Need → Option SemanticRule
fits t None = None
fits t (Some (Exactly u)) = wants t u
fits None (Some Traced) = None
fits (Some t) (Some Traced) = unless (is_there (equality_type t)) WrongType

-- what a sign asks of its operands, as far as they have types
abbrev pub operands : Op → Option TypeTree → Option TypeTree → Option SemanticRule
operands op None None = None
operands op (Some t) None = unless (is_there (sign_type op t)) WrongType
operands op None (Some u) = unless (is_there (sign_type op u)) WrongType
operands op (Some t) (Some u) = unless (is_there (binary_type op t u)) WrongType

-- what isn't in force in a function
abbrev pub not_here : Setting → Option SemanticRule
not_here s = unless (not s.plain) NotInFunction

-- what is called may stand in an expression, an effect only as a whole one; a statement call has no type
abbrev pub placed : Setting → Bool → Kind → Option SemanticRule
placed s whole Value = None
placed s whole OfFunction = None
placed s whole Clock = not_here s
placed s whole Effect = lesser (unless whole EffectInside) (not_here s)
placed s whole Statement = lesser (not_here s) (Some WrongType)

-- what is called may stand as a statement
abbrev pub said : Setting → Kind → Option SemanticRule
said s Value = Some LostValue
said s OfFunction = None
said s Clock = lesser (not_here s) (Some LostValue)
said s Effect = lesser (not_here s) (Some LostValue)
said s Statement = not_here s

-- whether there are as many arguments as are needed
abbrev pub as_many : ExprTrees → List Need → Bool
as_many NoExprs [] = true
as_many NoExprs (n ∷ ns) = false
as_many (MoreExprs e es) [] = false
as_many (MoreExprs e es) (n ∷ ns) = as_many es ns

-- something is called, with as many arguments as it needs
abbrev pub calls : ExprTrees → Option Callee → (Kind → Option SemanticRule) → Option SemanticRule
calls xs None may = Some UnknownName
calls xs (Some c) may = lesser (unless (as_many xs c.needs) WrongCount) (may c.kind)

-- the same behind a base, which may have no type
abbrev pub calls_on : Option TypeTree → ExprTrees → Option Callee → (Kind → Option SemanticRule) → Option SemanticRule
calls_on None xs c may = None
calls_on (Some t) xs c may = calls xs c may

abbrev pub of_field : Setting → Option TypeTree → List ℕ → Option SemanticRule
of_field s None x = None
of_field s (Some t) x = unless (is_there (field_form s t x)) UnknownName

-- the least rule that fails in an expression, which may be an effect where it is whole; and in
-- arguments, the first with this number, each judged, and compared as far as something is needed
abbrev mutual
  pub fault : Setting → Bool → ExprTree → Option SemanticRule
  fault s whole (IntExpr n) = None
  fault s whole (TextExpr t) = None
  fault s whole (BoolExpr b) = None
  fault s whole VoidExpr = None
  fault s whole (VarExpr x) = unless (is_there (variable_form s x.name)) UnknownName
  fault s whole (CallExpr f xs) = lesser (faults s 0 (needs_of (called s f.name)) xs) (calls xs (called s f.name) (placed s whole))
  fault s whole (FieldExpr e x) = lesser (fault s false e) (of_field s (form s e) x.name)
  fault s whole (MethodExpr e m xs) =
      lesser (fault s false e)
      (lesser (faults s 0 (needs_of (selected_on (form s e) m)) xs)
      (calls_on (form s e) xs (selected_on (form s e) m) (placed s false)))
  fault s whole (NotExpr e) = lesser (fault s false e) (wants (form s e) BoolType)
  fault s whole (NegExpr e) = lesser (fault s false e) (wants (form s e) IntType)
  fault s whole (BinaryExpr op a b) = lesser (lesser (fault s false a) (fault s false b)) (operands op (form s a) (form s b))
  fault s whole (ParenExpr e) = fault s false e

  pub faults : Setting → ℕ → List Need → ExprTrees → Option SemanticRule
  faults s k ns NoExprs = None
  faults s k ns (MoreExprs e es) = lesser (lesser (fault s false e) (fits (form s e) (slice_get ns k))) (faults s (suc k) ns es)

-- an expression of which this type is wanted
abbrev pub wanted : Setting → Bool → ExprTree → TypeTree → Option SemanticRule
wanted s whole e t = lesser (fault s whole e) (wants (form s e) t)

-- whether that is the result of a void actor
abbrev pub is_void : Setting → TypeTree → Bool
is_void s t = not s.plain && is_nothing t

-- a `return` gives a value of the result's type, and none in a void actor
abbrev pub returned : Setting → Option ExprTree → TypeTree → Option SemanticRule
returned s None t = unless (is_void s t) WrongType
returned s (Some e) t = wanted s false e t
