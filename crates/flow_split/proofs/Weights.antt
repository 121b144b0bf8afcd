-- How much there is to lower in a statement: what falls at each call.
use Rattle.std.proofs.Common.{ℕ, zero, suc, ◌+◌, ◌<◌, ◌≤◌, List, [], ◌∷◌, length, map, get_or, arith}
use Rattle.std.specs.declared.option.Option.{Option}
use Rattle.std.specs.declared.option.Option.TheVariants.{None, Some}
use Rattle.std.specs.declared.alloc.Global.{Global}
use Rattle.std.specs.declared.boxed.Box.{Box}
use Rattle.std.specs.declared.vec.Vec.{Vec}
use Rattle.flow_tree.specs.declared.stmt.Stmt.{Stmt, Stmt-F, fold-Stmt}
use Rattle.flow_tree.specs.declared.stmt.When.{When, When-F, fold-When}
use Rattle.flow_tree.specs.declared.stmt.StmtKind.{StmtKind-F}
use Rattle.flow_tree.specs.declared.stmt.StmtKind.TheOpen.{Block, If, While, For, Loop, Break, Continue, Return, Throw, Try, Choose, Declare, Assign, Modify, Call, Wait}

abbrev pub total : List ℕ → ℕ
total [] = 0
total (n ∷ ns) = n + total ns

abbrev pub part_weight : Option (Box ℕ Global) → ℕ
part_weight None = 0
part_weight (Some w) = w.value

abbrev pub else_weight : Option (Vec ℕ Global) → ℕ
else_weight None = 0
else_weight (Some ws) = total ws.items

abbrev pub kind_layer : StmtKind-F ℕ ℕ ℕ → ℕ
kind_layer (Block ws) = 10 + total ws.items
kind_layer (If e ws o) = 10 + total ws.items + else_weight o
kind_layer (While e ws) = 10 + total ws.items
kind_layer (For i e t ws) = 20 + part_weight i + part_weight t + total ws.items
kind_layer (Loop ws) = 10 + total ws.items
kind_layer Break = 0
kind_layer Continue = 0
kind_layer (Return e) = 0
kind_layer (Throw e) = 0
kind_layer (Try ws p x hs) = 10 + total ws.items + total hs.items
kind_layer (Choose ws) = 10 + total ws.items
kind_layer (Declare i e) = 0
kind_layer (Assign t e) = 0
kind_layer (Modify t c) = 0
kind_layer (Call t es) = 0
kind_layer (Wait w) = 0

abbrev pub stmt_layer : Stmt-F ℕ ℕ ℕ → ℕ
stmt_layer s = 1 + s.kind

abbrev pub branch_layer : When-F ℕ ℕ ℕ → ℕ
branch_layer w = 5 + total w.body.items

abbrev pub stmt_weight : Stmt → ℕ
stmt_weight = fold-Stmt ℕ ℕ ℕ kind_layer stmt_layer branch_layer

abbrev pub branch_weight : When → ℕ
branch_weight = fold-When ℕ ℕ ℕ kind_layer stmt_layer branch_layer

abbrev pub body_weight : List Stmt → ℕ
body_weight ss = total (map stmt_weight ss)

abbrev pub branches_weight : List When → ℕ
branches_weight ws = total (map branch_weight ws)

abbrev pub part_of : Option (Box Stmt Global) → ℕ
part_of None = 0
part_of (Some s) = stmt_weight s.value

pub stmt_below : (ss : List Stmt) (i : ℕ) (d : Stmt) → i < length ss → stmt_weight (get_or ss i d) ≤ body_weight ss
stmt_below [] i d lt = absurd (omega arith)
stmt_below (s ∷ ss) zero d lt = omega arith
stmt_below (s ∷ ss) (suc i) d lt = let lt' : i < length ss = omega arith in omega (arith, stmt_below ss i d lt')

pub branch_below : (ws : List When) (i : ℕ) (d : When) → i < length ws → branch_weight (get_or ws i d) ≤ branches_weight ws
branch_below [] i d lt = absurd (omega arith)
branch_below (w ∷ ws) zero d lt = omega arith
branch_below (w ∷ ws) (suc i) d lt = let lt' : i < length ws = omega arith in omega (arith, branch_below ws i d lt')
