-- How much there is to do in expressions and statements: what falls at each call of the evaluator.
use Rattle.std.proofs.Common.{◌≡◌, ℕ, zero, suc, ◌+◌, ◌*◌, ◌-◌, ◌<◌, ◌≤◌, List, [], ◌∷◌, length, map, get_or, arith, subst, sym}
use Rattle.std.specs.Option.{option_map}
use Rattle.std.specs.declared.option.Option.{Option}
use Rattle.std.specs.declared.option.Option.TheVariants.{None, Some}
use Rattle.std.specs.declared.alloc.Global.{Global}
use Rattle.std.specs.declared.boxed.Box.{Box}
use Rattle.std.specs.declared.vec.Vec.{Vec}
use Rattle.flow_tree.specs.declared.expr.Expr.{Expr}
use Rattle.flow_tree.specs.declared.stmt.Stmt.{Stmt, Stmt-F, fold-Stmt}
use Rattle.flow_tree.specs.declared.stmt.When.{When-F}
use Rattle.flow_tree.specs.declared.stmt.StmtKind.{StmtKind, StmtKind-F, fold-StmtKind}
use Rattle.flow_tree.specs.declared.stmt.StmtKind.TheOpen.{Block, If, While, For, Loop, Break, Continue, Return, Throw, Try, Choose, Declare, Assign, Modify, Call, Wait}
use Rattle.flow_tree.specs.declared.decl.FunctionDecl.{FunctionDecl}
use Rattle.flow_tree.specs.Tree.{ExprTree, ExprTrees, IntExpr, TextExpr, BoolExpr, VoidExpr, VarExpr, CallExpr, FieldExpr, MethodExpr, NotExpr, NegExpr, BinaryExpr, ParenExpr, NoExprs, MoreExprs}
use Rattle.flow_tree.specs.Body.{ChangeTree, PlusChange, MinusChange, UpChange, DownChange}
use Rattle.flow_tree.specs.View.{expr_of, exprs_of}
use Rattle.flow_tree.specs.StmtView.{change_of}

abbrev pub total : List ℕ → ℕ
total [] = 0
total (n ∷ ns) = n + total ns

abbrev mutual
  pub weight : ExprTree → ℕ
  weight (IntExpr n) = 1
  weight (TextExpr t) = 1
  weight (BoolExpr b) = 1
  weight VoidExpr = 1
  weight (VarExpr x) = 1
  weight (CallExpr f xs) = 4 + weights xs
  weight (FieldExpr e x) = 4 + weight e
  weight (MethodExpr e m xs) = 4 + weight e + weights xs
  weight (NotExpr e) = 4 + weight e
  weight (NegExpr e) = 4 + weight e
  weight (BinaryExpr op a b) = 4 + weight a + weight b
  weight (ParenExpr e) = 4 + weight e

  pub weights : ExprTrees → ℕ
  weights NoExprs = 0
  weights (MoreExprs e es) = weight e + weights es

abbrev pub maybe_weight : Option ExprTree → ℕ
maybe_weight None = 0
maybe_weight (Some e) = weight e

abbrev pub change_weight : ChangeTree → ℕ
change_weight (PlusChange e) = weight e
change_weight (MinusChange e) = weight e
change_weight UpChange = 0
change_weight DownChange = 0

abbrev pub part_weight : Option (Box ℕ Global) → ℕ
part_weight None = 0
part_weight (Some w) = w.value

abbrev pub else_weight : Option (Vec ℕ Global) → ℕ
else_weight None = 0
else_weight (Some ws) = total ws.items

abbrev pub kind_layer : StmtKind-F ℕ ℕ ℕ → ℕ
kind_layer (Block ws) = 10 + total ws.items
kind_layer (If e ws o) = 20 + weight (expr_of e) + total ws.items + else_weight o
kind_layer (While e ws) = 20 + weight (expr_of e) + total ws.items
kind_layer (For i e t ws) = 40 + part_weight i + maybe_weight (option_map expr_of e) + part_weight t + total ws.items
kind_layer (Loop ws) = 20 + total ws.items
kind_layer Break = 1
kind_layer Continue = 1
kind_layer (Return e) = 10 + maybe_weight (option_map expr_of e)
kind_layer (Throw e) = 10 + maybe_weight (option_map expr_of e)
kind_layer (Try ws p x hs) = 20 + total ws.items + total hs.items
kind_layer (Choose bs) = 1
kind_layer (Declare i e) = 10 + maybe_weight (option_map expr_of e)
kind_layer (Assign t e) = 10 + weight (expr_of e)
kind_layer (Modify t c) = 10 + change_weight (change_of c)
kind_layer (Call t es) = 10 + weights (exprs_of es.items)
kind_layer (Wait w) = 1

abbrev pub stmt_layer : Stmt-F ℕ ℕ ℕ → ℕ
stmt_layer s = 1 + s.kind

abbrev pub branch_layer : When-F ℕ ℕ ℕ → ℕ
branch_layer w = 1

abbrev pub kind_weight : StmtKind → ℕ
kind_weight = fold-StmtKind ℕ ℕ ℕ kind_layer stmt_layer branch_layer

abbrev pub stmt_weight : Stmt → ℕ
stmt_weight = fold-Stmt ℕ ℕ ℕ kind_layer stmt_layer branch_layer

abbrev pub body_weight : List Stmt → ℕ
body_weight ss = total (map stmt_weight ss)

abbrev pub part_of : Option (Box Stmt Global) → ℕ
part_of None = 0
part_of (Some s) = stmt_weight s.value

abbrev pub else_of : Option (Vec Stmt Global) → ℕ
else_of None = 0
else_of (Some ss) = body_weight ss.items

-- more than any body of a function weighs
pub room : List FunctionDecl → ℕ
room [] = 10
room (f ∷ fs) = body_weight f.body.items + room fs

pub arg_below : (es : List Expr) (i : ℕ) (d : Expr) → i < length es → weight (expr_of (get_or es i d)) ≤ weights (exprs_of es)
arg_below [] i d lt = absurd (omega arith)
arg_below (e ∷ es) zero d lt = omega arith
arg_below (e ∷ es) (suc i) d lt = let lt' : i < length es = omega arith in omega (arith, arg_below es i d lt')

pub stmt_below : (ss : List Stmt) (i : ℕ) (d : Stmt) → i < length ss → stmt_weight (get_or ss i d) ≤ body_weight ss
stmt_below [] i d lt = absurd (omega arith)
stmt_below (s ∷ ss) zero d lt = omega arith
stmt_below (s ∷ ss) (suc i) d lt = let lt' : i < length ss = omega arith in omega (arith, stmt_below ss i d lt')

-- the weight of the body at a place, and a little more
pub body_room_at : List FunctionDecl → ℕ → ℕ
body_room_at [] i = 0
body_room_at (f ∷ fs) zero = body_weight f.body.items + 2
body_room_at (f ∷ fs) (suc i) = body_room_at fs i

ten : (fs : List FunctionDecl) → 10 ≤ room fs
unfolding room
ten [] = omega arith
ten (f ∷ fs) = omega (arith, ten fs)

room_at : (fs : List FunctionDecl) (i : ℕ) → body_room_at fs i + 3 ≤ room fs
unfolding room body_room_at
room_at [] i = omega arith
room_at (f ∷ fs) zero = omega (arith, ten fs)
room_at (f ∷ fs) (suc i) = omega (arith, room_at fs i)

-- a call deeper weighs less
deeper : (n m k w : ℕ) → n ≡ m + 1 → w + 3 ≤ k → m * k + w < n * k
deeper n m k w e h = subst (λ x. m * k + w < x * k) (sym e) (omega arith)

pub call_falls : (n : ℕ) (fs : List FunctionDecl) (i : ℕ) → 0 < n → (n - 1) * room fs + body_room_at fs i < n * room fs
call_falls n fs i pos =
    let one : n ≡ (n - 1) + 1 = omega arith in
    deeper n (n - 1) (room fs) (body_room_at fs i) one (room_at fs i)

pub body_at_falls : (fs : List FunctionDecl) (i : ℕ) (d : FunctionDecl) → i < length fs → body_weight (get_or fs i d).body.items + 1 < body_room_at fs i
unfolding body_room_at
body_at_falls [] i d lt = absurd (omega arith)
body_at_falls (f ∷ fs) zero d lt = omega arith
body_at_falls (f ∷ fs) (suc i) d lt = let lt' : i < length fs = omega arith in omega (arith, body_at_falls fs i d lt')
