-- Locals by name in their scopes, and what is written over places instead of names.
use Rattle.std.specs.Prelude.{◌≢◌, ℕ, ◌<◌, List, [], ◌∷◌, position, codes, if◌then◌else◌}
use Rattle.std.specs.Str.{bytes_eq}
use Rattle.std.specs.declared.option.Option.{Option}
use Rattle.std.specs.declared.option.Option.TheVariants.{None, Some}
use Rattle.flow_tree.specs.declared.ty.Ident.{Ident}
use Rattle.flow_tree.specs.Tree.{ExprTree, ExprTrees, IntExpr, TextExpr, BoolExpr, VoidExpr, VarExpr, CallExpr, FieldExpr, MethodExpr, NotExpr, NegExpr, BinaryExpr, ParenExpr, NoExprs, MoreExprs}
use Rattle.flow_tree.specs.Decls.{SlotTree}
use Rattle.flow_ast.specs.TypingNames.{named, constant_names}
use Rattle.flow_class.specs.declared.class.Slotted.{Slotted}
use Rattle.flow_class.specs.declared.class.Slotted.TheVariants as place
use Rattle.flow_class.specs.Places.{place_name}

-- The locals, newest first: a mark begins a scope. P is what stands at a local: a value when the actor runs, its number
-- when the actor is compiled.
pub data Local (P : Type 0) : Type 0 where
  Mark : Local P
  Var : (name : List ℕ) → P → Local P

-- the newest local of a name
abbrev pub find : {P : Type 0} → List (Local P) → List ℕ → Option P
find [] x = None
find (Mark ∷ es) x = find es x
find (Var y p ∷ es) x = if bytes_eq x y then Some p else find es x

-- what stands at the locals of the innermost scope, and at all locals, newest first
abbrev pub scope : {P : Type 0} → List (Local P) → List P
scope [] = []
scope (Mark ∷ es) = []
scope (Var y p ∷ es) = p ∷ scope es

abbrev pub all_locals : {P : Type 0} → List (Local P) → List P
all_locals [] = []
all_locals (Mark ∷ es) = all_locals es
all_locals (Var y p ∷ es) = p ∷ all_locals es

-- the locals outside the innermost scope
abbrev pub outside : {P : Type 0} → List (Local P) → List (Local P)
outside [] = []
outside (Mark ∷ es) = es
outside (Var y p ∷ es) = outside es

-- the locals in force with their numbers, newest first
abbrev pub Scope : Type 0
Scope = List (Local ℕ)

-- no local in force has this number
abbrev pub Apart : ℕ → Scope → Type 0
Apart n [] = Unit {0}
Apart n (Mark ∷ s) = Apart n s
Apart n (Var x k ∷ s) = (n ≢ k) × Apart n s

-- each local in force has a lesser number
abbrev pub Above : ℕ → Scope → Type 0
Above n [] = Unit {0}
Above n (Mark ∷ s) = Above n s
Above n (Var x k ∷ s) = (k < n) × Above n s

-- A drop list covers locals: those in order, and between them locals that are not in force, which are empty.
pub data Covers (s : Scope) : List ℕ → List ℕ → Type 0 where
  none : Covers s [] []
  this : {n : ℕ} {ds ps : List ℕ} → Covers s ds ps → Covers s (n ∷ ds) (n ∷ ps)
  extra : {n : ℕ} {ds ps : List ℕ} → Apart n s → Covers s ds ps → Covers s (n ∷ ds) ps

-- the place of a name: of the newest local, or else of the slot
abbrev pub slot_place : Option ℕ → Option Slotted
slot_place None = None
slot_place (Some n) = Some (place.Slot n)

abbrev pub place_by : Option ℕ → Option ℕ → Option Slotted
place_by (Some n) k = Some (place.Local n)
place_by None k = slot_place k

abbrev pub place_of : List SlotTree → Scope → List ℕ → Option Slotted
place_of slots s x = place_by (find s x) (position (λ (t : SlotTree). bytes_eq x t.name) slots)

-- A variable is written as its place; a name that isn't in force as `_`, which names nothing.
abbrev pub var_over : Option Slotted → List ℕ
var_over None = codes "_"
var_over (Some p) = place_name p

-- names, expressions and paths over places; a constant is no variable, and no path begins with one
abbrev pub name_over : Option ℕ → Option Slotted → List ℕ → List ℕ
name_over (Some n) p x = x
name_over None p x = var_over p

module _ (slots : List SlotTree) where
  abbrev pub ident_over : Scope → Ident → Ident
  ident_over s x = record x { name = name_over (named constant_names x.name) (place_of slots s x.name) x.name }

  abbrev mutual
    pub over : Scope → ExprTree → ExprTree
    over s (IntExpr n) = IntExpr n
    over s (TextExpr t) = TextExpr t
    over s (BoolExpr b) = BoolExpr b
    over s VoidExpr = VoidExpr
    over s (VarExpr x) = VarExpr (ident_over s x)
    over s (CallExpr f es) = CallExpr f (over_all s es)
    over s (FieldExpr e x) = FieldExpr (over s e) x
    over s (MethodExpr e m es) = MethodExpr (over s e) m (over_all s es)
    over s (NotExpr e) = NotExpr (over s e)
    over s (NegExpr e) = NegExpr (over s e)
    over s (BinaryExpr op a b) = BinaryExpr op (over s a) (over s b)
    over s (ParenExpr e) = ParenExpr (over s e)

    pub over_all : Scope → ExprTrees → ExprTrees
    over_all s NoExprs = NoExprs
    over_all s (MoreExprs e es) = MoreExprs (over s e) (over_all s es)

  abbrev pub path_over : Scope → List Ident → List Ident
  path_over s [] = []
  path_over s (x ∷ xs) = record x { name = var_over (place_of slots s x.name) } ∷ xs

  -- a path of a single name after `act` is what is called
  abbrev pub act_over : Scope → List Ident → List Ident
  act_over s (f ∷ []) = f ∷ []
  act_over s xs = path_over s xs
