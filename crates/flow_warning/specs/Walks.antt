-- How walks go on from a point that neither mention a name nor have come to a wait.
--
-- The walks are those of the rule on state: each statement is a node, a `for` a node besides its init and its step. A node leads on by
-- the order of the text; an `if` leads into its bodies, and past them without an `else`; a `while`, and a `for` with a condition, lead
-- into the body and past it, whatever the condition says, a `loop`, and a `for` without one, only into it; the end of a loop's body
-- leads back; `break`, `continue` and `return` lead as they say. A node of the body of a `try` that evaluates something leads besides
-- to the innermost catch. Here a walk ends at a node that mentions the name, and at a `wait` or a `choose`.
use Rattle.std.specs.Prelude.{ℕ, Bool, true, false, ◌||◌, List, [], ◌∷◌, if◌then◌else◌}
use Rattle.std.specs.Str.{bytes_eq}
use Rattle.std.specs.declared.option.Option.{Option}
use Rattle.std.specs.declared.option.Option.TheVariants.{None, Some}
use Rattle.flow_base.specs.declared.place.Place.{Place}
use Rattle.flow_tree.specs.declared.ty.Ident.{Ident}
use Rattle.flow_tree.specs.Tree.{ExprTree, IntExpr, TextExpr, BoolExpr, VoidExpr, VarExpr, CallExpr, FieldExpr, MethodExpr, NotExpr, NegExpr, BinaryExpr, ParenExpr, ExprTrees, NoExprs, MoreExprs}
use Rattle.flow_tree.specs.Body.{ChangeTree, PlusChange, MinusChange, UpChange, DownChange, Body, End, BlockStmt, IfStmt, IfElseStmt, WhileStmt, ForStmt, LoopStmt, BreakStmt, ContinueStmt, ReturnStmt, ThrowStmt, TryStmt, ChooseStmt, DeclareStmt, AssignStmt, ModifyStmt, CallStmt, WaitStmt, Branches, NoBranches, MoreBranches}
use Rattle.flow_warning.specs.declared.walks.Walks.{Walks}

-- whether an expression mentions a name as a variable
abbrev mutual
  pub mentions : (name : List ℕ) → ExprTree → Bool
  mentions x (IntExpr n) = false
  mentions x (TextExpr t) = false
  mentions x (BoolExpr b) = false
  mentions x VoidExpr = false
  mentions x (VarExpr v) = bytes_eq v.name x
  mentions x (CallExpr f es) = mention x es
  mentions x (FieldExpr e f) = mentions x e
  mentions x (MethodExpr e f es) = mentions x e || mention x es
  mentions x (NotExpr e) = mentions x e
  mentions x (NegExpr e) = mentions x e
  mentions x (BinaryExpr op e f) = mentions x e || mentions x f
  mentions x (ParenExpr e) = mentions x e

  pub mention : (name : List ℕ) → ExprTrees → Bool
  mention x NoExprs = false
  mention x (MoreExprs e es) = mentions x e || mention x es

abbrev pub maybe_mentions : (name : List ℕ) → Option ExprTree → Bool
maybe_mentions x None = false
maybe_mentions x (Some e) = mentions x e

-- the variable of a path
abbrev pub path_mentions : (name : List ℕ) → List Ident → Bool
path_mentions x [] = false
path_mentions x (i ∷ is) = bytes_eq i.name x

abbrev pub change_mentions : (name : List ℕ) → ChangeTree → Bool
change_mentions x (PlusChange e) = mentions x e
change_mentions x (MinusChange e) = mentions x e
change_mentions x UpChange = false
change_mentions x DownChange = false

-- an operand of a branch
abbrev pub branches_mention : (name : List ℕ) → Branches → Bool
branches_mention x NoBranches = false
branches_mention x (MoreBranches at w b bs) = mentions x w.operand || branches_mention x bs

-- no walk
abbrev pub nowhere : Walks
nowhere = record { ends = false; breaks = false; continues = false; throws = false; leaves = false; wait = None }

-- an empty body
abbrev pub empty : Walks
empty = record nowhere { ends = true }

-- a node that leads on and to the catch around it, and one that leads to that alone
abbrev pub passed : Walks
passed = record empty { throws = true }

abbrev pub thrown : Walks
thrown = record nowhere { throws = true }

abbrev pub left : Walks
left = record thrown { leaves = true }

abbrev pub waiting : Place → Walks
waiting at = record nowhere { wait = Some at }

abbrev pub unless_mentioned : Bool → Walks → Walks
unless_mentioned m w = if m then nowhere else w

-- the first of two waits
abbrev pub first_wait : Option Place → Option Place → Option Place
first_wait (Some p) q = Some p
first_wait None q = q

-- by walks of two kinds
abbrev pub either : Walks → Walks → Walks
either w v = record {
  ends = w.ends || v.ends;
  breaks = w.breaks || v.breaks;
  continues = w.continues || v.continues;
  throws = w.throws || v.throws;
  leaves = w.leaves || v.leaves;
  wait = first_wait w.wait v.wait;
}

-- one part and then the other
abbrev pub in_turn : Walks → Walks → Walks
in_turn w v = if w.ends then either (record w { ends = false }) v else w

-- a round of a loop comes to its end, and to the step of a `for`, also by a `continue`
abbrev pub round : Walks → Walks
round w = record w { ends = w.ends || w.continues; continues = false }

-- a loop with this round, which nothing but a `break` leaves
abbrev pub looped : Walks → Walks
looped w = record w { ends = w.breaks; breaks = false; continues = false }

-- a loop that is left past its condition besides
abbrev pub tested : (name : List ℕ) → Option ExprTree → Walks → Walks
tested x None w = looped w
tested x (Some e) w = unless_mentioned (mentions x e) (either passed (looped w))

-- a `try` with its handler
abbrev pub handled : Walks → Walks → Walks
handled w h = if w.throws then either (record w { throws = false }) h else w

-- the walks from the begin of a body that don't mention the name, as far as their first wait
abbrev mutual
  pub alone : (name : List ℕ) → Body → Walks
  alone x End = empty
  alone x (BlockStmt at b k) = in_turn (alone x b) (alone x k)
  alone x (IfStmt at e b k) = in_turn (unless_mentioned (mentions x e) (either passed (alone x b))) (alone x k)
  alone x (IfElseStmt at e b c k) = in_turn (unless_mentioned (mentions x e) (either thrown (either (alone x b) (alone x c)))) (alone x k)
  alone x (WhileStmt at e b k) = in_turn (unless_mentioned (mentions x e) (either passed (looped (alone x b)))) (alone x k)
  alone x (ForStmt at i e t b k) = in_turn (in_turn (alone x i) (tested x e (in_turn (round (alone x b)) (alone x t)))) (alone x k)
  alone x (LoopStmt at b k) = in_turn (looped (alone x b)) (alone x k)
  alone x (BreakStmt at k) = record nowhere { breaks = true }
  alone x (ContinueStmt at k) = record nowhere { continues = true }
  alone x (ReturnStmt at v k) = unless_mentioned (maybe_mentions x v) left
  alone x (ThrowStmt at v k) = unless_mentioned (maybe_mentions x v) left
  alone x (TryStmt at b q y h k) = in_turn (handled (alone x b) (alone x h)) (alone x k)
  alone x (ChooseStmt at bs k) = unless_mentioned (branches_mention x bs) (waiting at)
  alone x (DeclareStmt at i v k) = in_turn (unless_mentioned (maybe_mentions x v) passed) (alone x k)
  alone x (AssignStmt at xs v k) = in_turn (unless_mentioned (path_mentions x xs || mentions x v) passed) (alone x k)
  alone x (ModifyStmt at xs d k) = in_turn (unless_mentioned (path_mentions x xs || change_mentions x d) passed) (alone x k)
  alone x (CallStmt at xs es k) = in_turn (unless_mentioned (path_mentions x xs || mention x es) passed) (alone x k)
  alone x (WaitStmt at w k) = unless_mentioned (mentions x w.operand) (waiting at)

-- an `if` by whether its condition mentions the name, its first body, and its `else`
abbrev pub branching : (name : List ℕ) → (mentioned : Bool) → Walks → Option Body → Walks
branching x m w None = unless_mentioned m (either passed w)
branching x m w (Some c) = unless_mentioned m (either thrown (either w (alone x c)))
