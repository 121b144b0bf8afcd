-- The first item of a body, in the order of the text, in which a rule fails, and the least rule there.
-- An item is a statement with its own expressions, a `when` or a `catch`. The init and the step of a
-- `for` are statements, and the `for` with its condition is the item between them.
use Rattle.std.specs.Prelude.{ℕ, Bool, true, false, not, ◌&&◌, ◌||◌, List, [], ◌∷◌, ◌++◌, map}
use Rattle.std.specs.Option.{option_map}
use Rattle.std.specs.Str.{bytes_eq}
use Rattle.std.specs.declared.option.Option.{Option}
use Rattle.std.specs.declared.option.Option.TheVariants.{None, Some}
use Rattle.flow_base.specs.declared.place.Place.{Place}
use Rattle.flow_tree.specs.declared.ty.Ident.{Ident}
use Rattle.flow_tree.specs.declared.fault.Rule.{Rule}
use Rattle.flow_tree.specs.declared.fault.Rule.TheVariants.{K}
use Rattle.flow_tree.specs.declared.expr.Op.TheVariants.{Add, Sub}
use Rattle.flow_tree.specs.Tree.{TypeTree, IntType, BoolType, VoidType, ErrorType, FutureType, FutureStreamType, PromiseType, PromiseStreamType, ExprTree, ExprTrees}
use Rattle.flow_tree.specs.Body.{IntoTree, WaitTree, ChangeTree, PlusChange, MinusChange, UpChange, DownChange, Body, End, BlockStmt, IfStmt, IfElseStmt, WhileStmt, ForStmt, LoopStmt, BreakStmt, ContinueStmt, ReturnStmt, ThrowStmt, TryStmt, ChooseStmt, DeclareStmt, AssignStmt, ModifyStmt, CallStmt, WaitStmt, Branches, NoBranches, MoreBranches}
use Rattle.flow_tree.specs.Decls.{SlotTree}
use Rattle.flow_ast.specs.Slots.{body_slots, branch_slots, waited_slots}
use Rattle.flow_ast.specs.Fits.{has_plain_default}
use Rattle.flow_ast.specs.TypingNames.{named}
use Rattle.flow_ast.specs.Typing.{or_else, is_there}
use Rattle.flow_rules.specs.declared.rule.SemanticRule.{SemanticRule}
use Rattle.flow_rules.specs.declared.rule.SemanticRule.TheVariants.{UnknownName, TakenName, NotInFunction, NeedsValue, BreakOutside, WaitInFunction}
use Rattle.flow_rules.specs.Least.{number, lesser, unless}
use Rattle.flow_rules.specs.Known.{type_known, is_predefined}
use Rattle.flow_rules.specs.Judged.{Setting, field_form, variable_form, of_field, form, fault, faults, wanted, returned, wants, operands, not_here, called, called_on, needs_of, calls, said}

-- what is in force at an item: its setting, the result that is wanted, the names of the parameters and
-- of the state variables so far, and whether it stands in a loop, and in the body of a catch
pub record Env : Type 0 where
  pub setting : Setting
  pub returns : TypeTree
  pub states : List (List ℕ)
  pub looped : Bool
  pub caught : Bool

abbrev pub Refusal : Type 0
Refusal = Rule × Place

-- an item at this place, with the least rule that fails in it
abbrev pub item : Place → Option SemanticRule → Option Refusal
item at f = option_map (λ k. (K (number k), at)) f

abbrev pub with_var : Env → List ℕ → TypeTree → Env
with_var e x t = record e { setting = record e.setting { vars = e.setting.vars ++ (x, t) ∷ [] } }

abbrev pub with_states : Env → List (List ℕ) → Env
with_states e xs = record e { states = e.states ++ xs }

abbrev pub in_loop : Env → Env
in_loop e = record e { looped = true }

abbrev pub in_catch : Env → Env
in_catch e = record e { caught = true }

abbrev pub slot_names : List SlotTree → List (List ℕ)
slot_names ss = map (λ (s : SlotTree). s.name) ss

-- behind statements their variables are no more in force, but the names of their state variables stay
abbrev pub behind : Env → Body → Env
behind e b = with_states e (slot_names (body_slots b))

abbrev pub if_state : Bool → List ℕ → List (List ℕ)
if_state true x = x ∷ []
if_state false x = []

abbrev pub declared : Env → IntoTree → Env
declared e i = with_var (with_states e (if_state i.state i.name.name)) i.name.name i.ty

abbrev pub waited : Env → Option IntoTree → Env
waited e None = e
waited e (Some i) = declared e i

-- a written type: its records are known, and in a function it holds no reference
abbrev pub written : Setting → TypeTree → Option SemanticRule
written s t = lesser (unless (type_known s.known t) UnknownName) (unless (not (s.plain && s.holds t)) NotInFunction)

abbrev pub among : List (List ℕ) → List ℕ → Bool
among [] x = false
among (y ∷ ys) x = bytes_eq x y || among ys x

-- a new variable: its name is that of no variable in force, not predefined, and none at the top; and a
-- state variable's is that of no parameter and no earlier state variable
abbrev pub fresh : Setting → List (List ℕ) → Bool → List ℕ → Option SemanticRule
fresh s states state x = unless (not (is_there (named s.vars x) || is_predefined x || is_there (s.known x) || (state && among states x)))
    TakenName

abbrev pub state_here : Setting → Bool → Option SemanticRule
state_here s true = not_here s
state_here s false = None

abbrev pub into_fault : Setting → List (List ℕ) → IntoTree → Option SemanticRule
into_fault s states i = lesser (written s i.ty) (lesser (state_here s i.state) (fresh s states i.state i.name.name))

-- the types of variables that have a value without one being given: a promise or a promise of a stream is made
abbrev pub has_default : TypeTree → Bool
has_default (PromiseType t) = true
has_default (PromiseStreamType t) = true
has_default t = has_plain_default t

abbrev pub value_fault : Setting → TypeTree → Option ExprTree → Option SemanticRule
value_fault s t None = unless (has_default t) NeedsValue
value_fault s t (Some v) = wanted s true v t

-- the type of what a path leads to from a base of this type, and the least rule that fails on it
abbrev pub path_form : Setting → Option TypeTree → List Ident → Option TypeTree
path_form s t [] = t
path_form s None (x ∷ xs) = None
path_form s (Some t) (x ∷ xs) = path_form s (field_form s t x.name) xs

abbrev pub path_fault : Setting → Option TypeTree → List Ident → Option SemanticRule
path_fault s t [] = None
path_fault s None (x ∷ xs) = None
path_fault s (Some t) (x ∷ xs) = lesser (of_field s (Some t) x.name) (path_fault s (field_form s t x.name) xs)

-- the target of an assignment is a variable in force, or a field in one
abbrev pub target_form : Setting → List Ident → Option TypeTree
target_form s [] = None
target_form s (x ∷ xs) = path_form s (named s.vars x.name) xs

abbrev pub target_fault : Setting → List Ident → Option SemanticRule
target_fault s [] = None
target_fault s (x ∷ xs) = lesser (unless (is_there (named s.vars x.name)) UnknownName) (path_fault s (named s.vars x.name) xs)

abbrev pub assigned : Option TypeTree → Option TypeTree → Option SemanticRule
assigned t None = None
assigned t (Some u) = wants t u

abbrev pub assign_fault : Setting → List Ident → ExprTree → Option SemanticRule
assign_fault s xs v = lesser (lesser (target_fault s xs) (fault s true v)) (assigned (form s v) (target_form s xs))

-- `x += e` is `x = x + (e)`, `++` adds 1; likewise `-=` and `--`
abbrev pub change_fault : Setting → Option TypeTree → ChangeTree → Option SemanticRule
change_fault s t (PlusChange v) = lesser (fault s false v) (operands Add t (form s v))
change_fault s t (MinusChange v) = lesser (fault s false v) (operands Sub t (form s v))
change_fault s t UpChange = wants t IntType
change_fault s t DownChange = wants t IntType

-- a call as a statement: by a name, or of a method, on a variable, a constant or a field
abbrev pub ends_of : Ident → List Ident → List Ident × Ident
ends_of x [] = ([], x)
ends_of x (y ∷ ys) = let r = ends_of y ys in (x ∷ r.0, r.1)

abbrev pub base_form : Setting → List Ident → Option TypeTree
base_form s [] = None
base_form s (x ∷ xs) = path_form s (variable_form s x.name) xs

abbrev pub base_fault : Setting → List Ident → Option SemanticRule
base_fault s [] = None
base_fault s (x ∷ xs) = lesser (unless (is_there (variable_form s x.name)) UnknownName) (path_fault s (variable_form s x.name) xs)

abbrev pub call_by_name : Setting → List ℕ → ExprTrees → Option SemanticRule
call_by_name s f es = lesser (faults s 0 (needs_of (called s f)) es) (calls es (called s f) (said s))

abbrev pub call_on : Setting → List Ident → List ℕ → ExprTrees → Option SemanticRule
call_on s base m es =
    lesser (base_fault s base)
    (lesser (faults s 0 (needs_of (called_on (base_form s base) m)) es) (calls es (called_on (base_form s base) m) (said s)))

abbrev pub call_fault : Setting → List Ident → ExprTrees → Option SemanticRule
call_fault s [] es = None
call_fault s (f ∷ []) es = call_by_name s f.name es
call_fault s (x ∷ (y ∷ ys)) es = call_on s (ends_of x (y ∷ ys)).0 (ends_of x (y ∷ ys)).1.name es

-- a wait asks for a future or a stream of what it declares, or of `Void`
abbrev pub wait_type : Bool → Option IntoTree → TypeTree
wait_type false None = FutureType VoidType
wait_type true None = FutureStreamType VoidType
wait_type false (Some i) = FutureType i.ty
wait_type true (Some i) = FutureStreamType i.ty

abbrev pub maybe_into : Setting → List (List ℕ) → Option IntoTree → Option SemanticRule
maybe_into s states None = None
maybe_into s states (Some i) = into_fault s states i

abbrev pub wait_fault : Setting → List (List ℕ) → WaitTree → Option SemanticRule
wait_fault s states w =
    lesser (maybe_into s states w.into)
    (lesser (wanted s true w.operand (wait_type w.next w.into)) (unless (not s.plain) WaitInFunction))

abbrev pub test_fault : Setting → ExprTree → Option SemanticRule
test_fault s t = wanted s false t BoolType

abbrev pub maybe_test : Setting → Option ExprTree → Option SemanticRule
maybe_test s None = None
maybe_test s (Some t) = test_fault s t

abbrev pub throw_fault : Setting → Bool → Option ExprTree → Option SemanticRule
throw_fault s caught None = unless caught BreakOutside
throw_fault s caught (Some v) = wanted s false v ErrorType

abbrev pub declare_fault : Setting → List (List ℕ) → IntoTree → Option ExprTree → Option SemanticRule
declare_fault s states i v = lesser (into_fault s states i) (value_fault s i.ty v)

abbrev pub modify_fault : Setting → List Ident → ChangeTree → Option SemanticRule
modify_fault s xs c = lesser (target_fault s xs) (change_fault s (target_form s xs) c)

-- the variable that the init of a `for` declares is in force in its parts and its body
abbrev pub started : Env → Body → Env
started e (DeclareStmt at i v k) = declared e i
started e (WaitStmt at w k) = waited e w.into
started e b = behind e b

abbrev mutual
  pub body_refusal : Env → Body → Option Refusal
  body_refusal e End = None
  body_refusal e (BlockStmt at b k) = or_else (body_refusal e b) (body_refusal (behind e b) k)
  body_refusal e (IfStmt at t b k) = or_else (item at (test_fault e.setting t)) (or_else (body_refusal e b) (body_refusal (behind e b) k))
  body_refusal e (IfElseStmt at t b c k) =
      or_else (item at (test_fault e.setting t))
      (or_else (body_refusal e b) (or_else (body_refusal (behind e b) c) (body_refusal (behind (behind e b) c) k)))
  body_refusal e (WhileStmt at t b k) = or_else (item at (test_fault e.setting t))
      (or_else (body_refusal (in_loop e) b) (body_refusal (behind e b) k))
  body_refusal e (ForStmt at i t n b k) =
      or_else (body_refusal e i)
      (or_else (item at (maybe_test (started e i).setting t))
      (or_else (body_refusal (started e i) n)
      (or_else (body_refusal (in_loop (behind (started e i) n)) b) (body_refusal (behind (behind (behind e i) n) b) k))))
  body_refusal e (LoopStmt at b k) = or_else (body_refusal (in_loop e) b) (body_refusal (behind e b) k)
  body_refusal e (BreakStmt at k) = or_else (item at (unless e.looped BreakOutside)) (body_refusal e k)
  body_refusal e (ContinueStmt at k) = or_else (item at (unless e.looped BreakOutside)) (body_refusal e k)
  body_refusal e (ReturnStmt at v k) = or_else (item at (returned e.setting v e.returns)) (body_refusal e k)
  body_refusal e (ThrowStmt at v k) = or_else (item at (throw_fault e.setting e.caught v)) (body_refusal e k)
  body_refusal e (TryStmt at b q x h k) =
      or_else (body_refusal e b)
      (or_else (item q (fresh e.setting (behind e b).states false x.name))
      (or_else (body_refusal (in_catch (with_var (behind e b) x.name ErrorType)) h) (body_refusal (behind (behind e b) h) k)))
  body_refusal e (ChooseStmt at bs k) =
      or_else (item at (unless (not e.setting.plain) WaitInFunction))
      (or_else (branch_refusal e bs) (body_refusal (with_states e (slot_names (branch_slots bs))) k))
  body_refusal e (DeclareStmt at i v k) = or_else (item at (declare_fault e.setting e.states i v)) (body_refusal (declared e i) k)
  body_refusal e (AssignStmt at xs v k) = or_else (item at (assign_fault e.setting xs v)) (body_refusal e k)
  body_refusal e (ModifyStmt at xs c k) = or_else (item at (modify_fault e.setting xs c)) (body_refusal e k)
  body_refusal e (CallStmt at xs es k) = or_else (item at (call_fault e.setting xs es)) (body_refusal e k)
  body_refusal e (WaitStmt at w k) = or_else (item at (wait_fault e.setting e.states w)) (body_refusal (waited e w.into) k)

  pub branch_refusal : Env → Branches → Option Refusal
  branch_refusal e NoBranches = None
  branch_refusal e (MoreBranches at w b bs) =
      or_else (item at (wait_fault e.setting e.states w))
      (or_else (body_refusal (waited e w.into) b) (branch_refusal (with_states e (slot_names (waited_slots w ++ body_slots b))) bs))
