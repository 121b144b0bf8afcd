-- A machine that reads the tokens of an expression one at a time, with what is open on a stack. The
-- functions that read expressions say where they bring it; the grammar is what it is proved to follow.
use Rattle.std.specs.Prelude.{ℕ, suc, ◌+◌, ◌≤◌, ◌<◌, max, List, [], ◌∷◌, cond, Bool, true, false, ◌&&◌, nat_lt, nat_le, if◌then◌else◌}
use Rattle.flow_tree.specs.declared.token.Token.{Token}
use Rattle.flow_tree.specs.declared.token.Token.TheVariants as token
use Rattle.flow_tree.specs.declared.token.Word.{Word}
use Rattle.flow_tree.specs.declared.token.Word.TheVariants as word
use Rattle.flow_tree.specs.declared.token.Spot.{Spot}
use Rattle.flow_tree.specs.declared.expr.Op.{Op}
use Rattle.flow_tree.specs.declared.expr.Op.TheVariants.{Sub}
use Rattle.flow_tree.specs.declared.ty.Ident.{Ident}
use Rattle.flow_tree.specs.Tree.{ByName, indexed, ExprTree, ExprTrees, IntExpr, TextExpr, BoolExpr, VoidExpr, VarExpr, CallExpr, FieldExpr, MethodExpr, NotExpr, NegExpr, BinaryExpr, ParenExpr, NoExprs, MoreExprs}
use Rattle.flow_tree.specs.Grammar.{level, unary_level}
use Rattle.flow_exprs.specs.declared.kind.Kind.{Kind}
use Rattle.flow_exprs.specs.declared.kind.Kind.TheVariants as kind
use Rattle.flow_exprs.specs.Kinds.{kind_of}
use Rattle.flow_tree.specs.declared.limits.TheConstants.{DEPTH}

-- the expression that one token is
abbrev pub word_leaf : Word → ExprTree
word_leaf word.Yes = BoolExpr true
word_leaf _ = BoolExpr false

abbrev pub leaf : Token → ExprTree
leaf (token.Number n) = IntExpr n
leaf (token.Text t) = TextExpr t
leaf (token.Word w) = word_leaf w
leaf _ = VoidExpr

-- the name that a token is, at its place
abbrev pub name_bytes : Token → List ℕ
name_bytes (token.Name n) = n
name_bytes _ = []

abbrev pub ident : Spot → Ident
ident x = record { name = name_bytes x.token; at = x.at }

-- what is called, and the signs before an operand
pub data Head : Type 0 where
  Function : Ident → Head
  Method : ExprTree → Ident → Head

abbrev pub called : Head → ExprTrees → ExprTree
called (Function f) ts = CallExpr f ts
called (Method t f) ts = MethodExpr t (ByName f) ts

pub data Unary : Type 0 where
  Negation : Unary
  Minus : Unary

abbrev pub unary : Unary → ExprTree → ExprTree
unary Negation t = NotExpr t
unary Minus t = NegExpr t

-- what is open around the place that is read; at the bottom, the depth of the whole
pub data Stack : Type 0 where
  Top : ℕ → Stack
  InParen : Stack → Stack
  InUnary : Unary → Stack → Stack
  InTwo : Op → ExprTree → Stack → Stack
  InArgs : Head → ExprTrees → Stack → Stack
  InIndex : ExprTree → Stack → Stack

pub data State : Type 0 where
  -- an operand is to begin
  Want : Stack → State
  -- an operand has been read, and may go on
  Have : ExprTree → Stack → State
  -- the first argument is to begin, or there is none
  WantArgs : Head → Stack → State
  -- a name is to follow a dot
  WantName : ExprTree → Stack → State
  -- the brackets behind Void are to follow
  WantOpen : Stack → State
  WantClose : Stack → State
  Dead : State

-- arguments with one more at the end
abbrev pub push : ExprTrees → ExprTree → ExprTrees
push NoExprs t = MoreExprs t NoExprs
push (MoreExprs u us) t = MoreExprs u (push us t)

-- what is left where all open signs of this level or a higher one are closed
abbrev pub closed_tree : ℕ → ExprTree → Stack → ExprTree
closed_tree n t (Top d) = t
closed_tree n t (InParen K) = t
closed_tree n t (InUnary u K) = closed_tree n (unary u t) K
closed_tree n t (InTwo op l K) = if nat_lt (level op) n then t else closed_tree n (BinaryExpr op l t) K
closed_tree n t (InArgs h ts K) = t
closed_tree n t (InIndex l K) = t

abbrev pub closed_stack : ℕ → Stack → Stack
closed_stack n (Top d) = Top d
closed_stack n (InParen K) = InParen K
closed_stack n (InUnary u K) = closed_stack n K
closed_stack n (InTwo op l K) = if nat_lt (level op) n then InTwo op l K else closed_stack n K
closed_stack n (InArgs h ts K) = InArgs h ts K
closed_stack n (InIndex l K) = InIndex l K

abbrev pub after_close : ExprTree → Stack → State
after_close t (InParen K) = Have (ParenExpr t) K
after_close t (InArgs h ts K) = Have (called h (push ts t)) K
after_close t _ = Dead

abbrev pub after_square : ExprTree → Stack → State
after_square t (InIndex l K) = Have (indexed l t) K
after_square t _ = Dead

abbrev pub after_comma : ExprTree → Stack → State
after_comma t (InArgs h ts K) = Want (InArgs h (push ts t) K)
after_comma t _ = Dead

abbrev pub after_open : ExprTree → Stack → State
after_open (VarExpr x) K = WantArgs (Function x) K
after_open (FieldExpr t x) K = WantArgs (Method t x) K
after_open _ K = Dead

abbrev pub sign_first : Op → Stack → State
sign_first Sub K = Want (InUnary Minus K)
sign_first _ K = Dead

-- an operand begins with this token
abbrev pub step_want : Stack → Kind → Spot → State
step_want K kind.Leaf x = Have (leaf x.token) K
step_want K kind.Name x = Have (VarExpr (ident x)) K
step_want K kind.Void x = WantOpen K
step_want K kind.Open x = Want (InParen K)
step_want K kind.Not x = Want (InUnary Negation K)
step_want K (kind.Op op) x = sign_first op K
step_want K _ x = Dead

abbrev pub step_have : ExprTree → Stack → Kind → State
step_have t K kind.Open = after_open t K
step_have t K kind.Close = after_close (closed_tree 0 t K) (closed_stack 0 K)
step_have t K kind.OpenSquare = Want (InIndex t K)
step_have t K kind.CloseSquare = after_square (closed_tree 0 t K) (closed_stack 0 K)
step_have t K kind.Comma = after_comma (closed_tree 0 t K) (closed_stack 0 K)
step_have t K kind.Dot = WantName t K
step_have t K (kind.Op op) = Want (InTwo op (closed_tree (level op) t K) (closed_stack (level op) K))
step_have t K _ = Dead

abbrev pub step_args : Head → Stack → Kind → Spot → State
step_args h K kind.Close x = Have (called h NoExprs) K
step_args h K k x = step_want (InArgs h NoExprs K) k x

abbrev pub step_name : ExprTree → Stack → Kind → Spot → State
step_name t K kind.Name x = Have (FieldExpr t (ident x)) K
step_name t K _ x = Dead

abbrev pub step_open : Stack → Kind → State
step_open K kind.Open = WantClose K
step_open K _ = Dead

abbrev pub step_close : Stack → Kind → State
step_close K kind.Close = Have VoidExpr K
step_close K _ = Dead

abbrev pub step_kind : State → Kind → Spot → State
step_kind (Want K) k x = step_want K k x
step_kind (Have t K) k x = step_have t K k
step_kind (WantArgs h K) k x = step_args h K k x
step_kind (WantName t K) k x = step_name t K k x
step_kind (WantOpen K) k x = step_open K k
step_kind (WantClose K) k x = step_close K k
step_kind Dead k x = Dead

abbrev pub step : State → Spot → State
step S x = step_kind S (kind_of x.token) x

-- how many nodes lie below one another
abbrev mutual
  pub height : ExprTree → ℕ
  height (IntExpr n) = 1
  height (TextExpr t) = 1
  height (BoolExpr b) = 1
  height VoidExpr = 1
  height (VarExpr x) = 1
  height (CallExpr f ts) = suc (heights ts)
  height (FieldExpr t x) = suc (height t)
  height (MethodExpr t f ts) = suc (max (height t) (heights ts))
  height (NotExpr t) = suc (height t)
  height (NegExpr t) = suc (height t)
  height (BinaryExpr op l r) = suc (max (height l) (height r))
  height (ParenExpr t) = suc (height t)

  pub heights : ExprTrees → ℕ
  heights NoExprs = 0
  heights (MoreExprs t ts) = max (height t) (heights ts)

abbrev pub head_height : Head → ℕ
head_height (Function f) = 0
head_height (Method t f) = height t

-- the depth of what is wanted
abbrev pub hole : Stack → ℕ
hole (Top d) = d
hole (InParen K) = suc (hole K)
hole (InUnary u K) = suc (hole K)
hole (InTwo op l K) = suc (hole K)
hole (InArgs h ts K) = suc (hole K)
hole (InIndex l K) = suc (hole K)

-- all nodes that have begun keep the limit of depth
abbrev pub fits_stack : Stack → Bool
fits_stack (Top d) = true
fits_stack (InParen K) = nat_le (hole K) DEPTH && fits_stack K
fits_stack (InUnary u K) = nat_le (hole K) DEPTH && fits_stack K
fits_stack (InTwo op l K) = nat_le (hole K + height l) DEPTH && fits_stack K
fits_stack (InArgs h ts K) = nat_le (hole K + max (head_height h) (heights ts)) DEPTH && fits_stack K
fits_stack (InIndex l K) = nat_le (hole K + height l) DEPTH && fits_stack K

abbrev pub fits : State → Bool
fits (Want K) = fits_stack K
fits (Have t K) = nat_le (hole K + height t) (suc DEPTH) && fits_stack K
fits (WantArgs h K) = nat_le (hole K + head_height h) DEPTH && fits_stack K
fits (WantName t K) = nat_le (hole K + height t) DEPTH && fits_stack K
fits (WantOpen K) = nat_le (hole K) DEPTH && fits_stack K
fits (WantClose K) = nat_le (hole K) DEPTH && fits_stack K
fits Dead = true

-- an expression that ends before the token of this number; or nothing goes on with that token; or
-- it is too deep
pub data Outcome : Type 0 where
  Ended : ExprTree → ℕ → Outcome
  ShortAt : ℕ → Outcome
  DeepAt : ℕ → Outcome

abbrev pub at_end : ℕ → ExprTree → Stack → Outcome
at_end k t (Top d) = Ended t k
at_end k t _ = ShortAt k

abbrev pub halt : ℕ → State → Outcome
halt k (Have t K) = at_end k (closed_tree 0 t K) (closed_stack 0 K)
halt k _ = ShortAt k

-- the machine has come from a state to the next by the token of this number
abbrev pub turn : ℕ → State → State → Outcome → Outcome
turn k S Dead o = halt k S
turn k S T o = cond (fits T) o (DeepAt k)

-- the machine from a state, at the token of this number
abbrev pub run : ℕ → State → List Spot → Outcome
run k S [] = halt k S
run k S (x ∷ xs) = turn k S (step S x) (run (suc k) (step S x) xs)

-- no sign of this level or a higher one is open
abbrev pub Below : ℕ → Stack → Type 0
Below n (Top d) = Unit {0}
Below n (InParen K) = Unit {0}
Below n (InUnary u K) = unary_level ≤ n
Below n (InTwo op l K) = level op < n
Below n (InArgs h ts K) = Unit {0}
Below n (InIndex l K) = Unit {0}
