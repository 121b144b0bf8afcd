-- What the functions that read expressions answer.
use Rattle.std.specs.Prelude.{◌≡◌, ℕ, suc, ◌+◌, ◌≤◌, ◌<◌, List, true, false, nat_lt, if◌then◌else◌, drop, length, Result, Ok, Err, slice_get}
use Rattle.std.specs.declared.option.Option.{Option}
use Rattle.std.specs.declared.option.Option.TheVariants.{None, Some}
use Rattle.flow_base.specs.declared.place.Place.{Place}
use Rattle.flow_tree.specs.declared.token.Token.{Token}
use Rattle.flow_tree.specs.declared.token.Token.TheVariants as token
use Rattle.flow_tree.specs.declared.token.Word.{Word}
use Rattle.flow_tree.specs.declared.token.Word.TheVariants as word
use Rattle.flow_tree.specs.declared.token.Spot.{Spot}
use Rattle.flow_tree.specs.declared.token.Tokens.{Tokens}
use Rattle.flow_tree.specs.declared.fault.Rule.TheVariants.{S, L}
use Rattle.flow_tree.specs.declared.fault.SourceFault.{SourceFault}
use Rattle.flow_tree.specs.declared.fault.SourceFault.TheVariants.{Refused, OutOfMemory}
use Rattle.flow_tree.specs.GrammarAnswer.{place_at}
use Rattle.flow_tree.specs.declared.expr.Op.{Op}
use Rattle.flow_tree.specs.declared.expr.Op.TheVariants.{Sub}
use Rattle.flow_tree.specs.declared.ty.Ident.{Ident}
use Rattle.flow_tree.specs.View.{expr_of, exprs_of}
use Rattle.flow_exprs.specs.declared.expr.Read.{Read}
use Rattle.flow_exprs.specs.declared.expr.ReadArgs.{ReadArgs}
use Rattle.flow_tree.specs.Tree.{ExprTree, ExprTrees, IntExpr, TextExpr, BoolExpr, VarExpr, FieldExpr}
use Rattle.flow_tree.specs.Grammar.{level, dot_level}
use Rattle.flow_exprs.specs.declared.kind.Kind.{Kind}
use Rattle.flow_exprs.specs.declared.kind.Kind.TheVariants as kind
use Rattle.flow_exprs.specs.declared.stop.Stop.{Stop}
use Rattle.flow_exprs.specs.declared.stop.Stop.TheVariants.{Short, Deep, NoMemory}
use Rattle.flow_exprs.specs.Kinds.{kind_at}
use Rattle.flow_exprs.specs.Machine.{Stack, Want, Have, Head, WantArgs, called, height, heights, head_height, hole, fits_stack, Outcome, ShortAt, DeepAt, run, Below}
use Rattle.flow_tree.specs.declared.limits.TheConstants.{DEPTH}

-- the level of what not even a dot or an index splits
abbrev pub primary_level : ℕ
primary_level = suc dot_level

-- an opening bracket behind this expression makes no call
abbrev pub NotCallable : ExprTree → Type 0
NotCallable (VarExpr x) = ⊥
NotCallable (FieldExpr t x) = ⊥
NotCallable _ = Unit {0}

-- a token of this kind doesn't go on with the expression at this level or a higher one
abbrev pub KindStops : ℕ → ExprTree → Kind → Type 0
KindStops m t (kind.Op op) = level op < m
KindStops m t kind.Dot = dot_level < m
KindStops m t kind.OpenSquare = dot_level < m
KindStops m t kind.Open = NotCallable t
KindStops m t _ = Unit {0}

abbrev pub Stops : ℕ → ExprTree → Option Kind → Type 0
Stops m t None = Unit {0}
Stops m t (Some k) = KindStops m t k

-- the machine may want an operand of this level and depth here
pub record Fit (n depth : ℕ) (K : Stack) : Type 0 where
  pub below : Below n K
  pub depth_is : hole K ≡ depth
  pub fits_is : fits_stack K ≡ true

-- from one token to another an expression is read, with which nothing at level m or a higher one
-- goes on
pub record ReadsExpr (spots : List Spot) (from n depth m : ℕ) (t : ExprTree) (high to : ℕ) : Type 0 where
  pub after : from < to
  pub within : to ≤ length spots
  pub high_is : high ≡ height t
  pub fits_in : depth + high ≤ suc DEPTH
  pub comes : (K : Stack) → Fit n depth K → run from (Want K) (drop from spots) ≡ run to (Have t K) (drop to spots)
  pub stops : Stops m t (kind_at spots to)

-- behind an expression, from one token to another, more is read that makes it another expression
pub record Extends (spots : List Spot) (t : ExprTree) (from n depth m : ℕ) (u : ExprTree) (high to : ℕ) : Type 0 where
  pub after : from < to
  pub within : to ≤ length spots
  pub high_is : high ≡ height u
  pub fits_in : depth + high ≤ suc DEPTH
  pub comes : (K : Stack) → Fit n depth K → run from (Have t K) (drop from spots) ≡ run to (Have u K) (drop to spots)
  pub stops : Stops m u (kind_at spots to)

-- from one token to another the arguments of a call and its closing bracket are read
pub record ReadsArgs (spots : List Spot) (from depth : ℕ) (ts : ExprTrees) (high to : ℕ) : Type 0 where
  pub after : from < to
  pub within : to ≤ length spots
  pub high_is : high ≡ heights ts
  pub fits_in : depth + high ≤ DEPTH
  pub comes : (h : Head) (K : Stack) → Fit dot_level depth K → depth + head_height h ≤ DEPTH
      → run from (WantArgs h K) (drop from spots) ≡ run to (Have (called h ts) K) (drop to spots)

-- why nothing is read
abbrev pub Ends : Outcome → Stop → Type 0
Ends o (Short k) = o ≡ ShortAt k
Ends o (Deep k) = o ≡ DeepAt k
Ends o NoMemory = Unit {0}

abbrev pub Refuses : List Spot → ℕ → ℕ → ℕ → Stop → Type 0
Refuses spots from n depth stop = (K : Stack) → Fit n depth K → Ends (run from (Want K) (drop from spots)) stop

abbrev pub RefusesArgs : List Spot → ℕ → ℕ → Stop → Type 0
RefusesArgs spots from depth stop = (h : Head) (K : Stack) → Fit dot_level depth K → depth + head_height h ≤ DEPTH
    → Ends (run from (WantArgs h K) (drop from spots)) stop

-- the sign with which the tokens go on at this level or a higher one
abbrev pub next_op : ℕ → Option Kind → Option Op
next_op n None = None
next_op n (Some (kind.Op op)) = if nat_lt (level op) n then None else Some op
next_op n (Some _) = None

-- the expression that the token here is by itself
abbrev pub leaf_of_word : Word → Option ExprTree
leaf_of_word word.Yes = Some (BoolExpr true)
leaf_of_word word.No = Some (BoolExpr false)
leaf_of_word _ = None

abbrev pub leaf_of : Token → Option ExprTree
leaf_of (token.Number n) = Some (IntExpr n)
leaf_of (token.Text t) = Some (TextExpr t)
leaf_of (token.Word w) = leaf_of_word w
leaf_of _ = None

abbrev pub leaf_in : Option Spot → Option ExprTree
leaf_in None = None
leaf_in (Some x) = leaf_of x.token

abbrev pub leaf_at : List Spot → ℕ → Option ExprTree
leaf_at spots k = leaf_in (slice_get spots k)

-- the name that stands here, with its place
abbrev pub ident_of : Token → Place → Option Ident
ident_of (token.Name n) p = Some (record { name = n; at = p })
ident_of _ p = None

abbrev pub ident_in : Option Spot → Option Ident
ident_in None = None
ident_in (Some x) = ident_of x.token x.at

abbrev pub ident_at : List Spot → ℕ → Option Ident
ident_at spots k = ident_in (slice_get spots k)

-- what is answered where an expression is wanted
abbrev pub Answer : List Spot → ℕ → ℕ → ℕ → ℕ → Result Read Stop → Type 0
Answer spots from n depth m (Ok r) = ReadsExpr spots from n depth m (expr_of r.expr) r.high r.to
Answer spots from n depth m (Err s) = Refuses spots from n depth s

abbrev pub ArgsAnswer : List Spot → ℕ → ℕ → Result ReadArgs Stop → Type 0
ArgsAnswer spots from depth (Ok r) = ReadsArgs spots from depth (exprs_of r.args.items) r.high r.to
ArgsAnswer spots from depth (Err s) = RefusesArgs spots from depth s

-- what is answered where an expression goes on
abbrev pub GoesAnswer : List Spot → Read → ℕ → ℕ → ℕ → Result Read Stop → Type 0
GoesAnswer spots left n depth m (Ok r) = Extends spots (expr_of left.expr) left.to n depth m (expr_of r.expr) r.high r.to
GoesAnswer spots left n depth m (Err s) = (K : Stack) → Fit n depth K
    → Ends (run left.to (Have (expr_of left.expr) K) (drop left.to spots)) s

-- no sign stands before an operand
abbrev pub NoSign : Kind → Type 0
NoSign kind.Not = ⊥
NoSign (kind.Op Sub) = ⊥
NoSign _ = Unit {0}

-- the refusal of a text whose reading stopped so
abbrev pub RefusalIs : Tokens → Stop → SourceFault → Type 0
RefusalIs t (Short k) e = e ≡ Refused (S 5) (place_at t k)
RefusalIs t (Deep k) e = e ≡ Refused (L 5) (place_at t k)
RefusalIs t NoMemory e = e ≡ OutOfMemory
