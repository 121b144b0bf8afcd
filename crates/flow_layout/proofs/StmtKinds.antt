-- Each kind of statement, put before a body.
use Rattle.std.proofs.Common.{◌≡◌, ap, ◌∙◌}
use Rattle.std.specs.Option.{option_map}
use Rattle.std.specs.declared.option.Option.{Option}
use Rattle.std.specs.declared.option.Option.TheVariants.{None, Some}
use Rattle.std.specs.declared.alloc.Global.{Global}
use Rattle.std.specs.declared.boxed.Box.{Box}
use Rattle.std.specs.declared.vec.Vec.{Vec}
use Rattle.flow_base.specs.declared.place.Place.{Place}
use Rattle.flow_tree.specs.declared.ty.Ident.{Ident}
use Rattle.flow_tree.specs.declared.expr.Expr.{Expr}
use Rattle.flow_tree.specs.declared.stmt.Into.{Into}
use Rattle.flow_tree.specs.declared.stmt.Target.{Target}
use Rattle.flow_tree.specs.declared.stmt.Change.{Change}
use Rattle.flow_tree.specs.declared.stmt.Waiting.{Waiting}
use Rattle.flow_tree.specs.declared.stmt.When.{When, out-When, fold_out-When}
use Rattle.flow_tree.specs.declared.stmt.Stmt.{Stmt}
use Rattle.flow_tree.specs.declared.stmt.StmtKind.{StmtKind}
use Rattle.flow_tree.specs.declared.stmt.StmtKind.TheVariants as kind
use Rattle.flow_tree.specs.View.{expr_of, exprs_of}
use Rattle.flow_tree.specs.StmtView.{into_of, waiting_of, change_of, kind_of, kind_step, stmt_of, stmt_step, branch_step, branch_of, body_of, branches_of, simple_of}
use Rattle.flow_tree.specs.Body.{Body, Branches, BlockStmt, IfStmt, IfElseStmt, WhileStmt, ForStmt, LoopStmt, BreakStmt, ContinueStmt, ReturnStmt, ThrowStmt, TryStmt, ChooseStmt, DeclareStmt, AssignStmt, ModifyStmt, CallStmt, WaitStmt, MoreBranches}
use Rattle.flow_tree.proofs.Views.{stmt_is, kind_block, kind_if, kind_if_else, kind_while, kind_for, kind_loop, kind_break, kind_continue, kind_return, kind_throw, kind_try, kind_choose, kind_declare, kind_assign, kind_modify, kind_call, kind_wait}

-- a kind of statement is the function that puts it before a body, at a place
abbrev Puts : Type 0
Puts = Place → Body → Body

of_kind : (s : Stmt) (x : StmtKind) (k : Body) → s.kind ≡ x → stmt_of s k ≡ kind_of x s.at k
of_kind s x k e = ap (λ f. f k) (stmt_is s) ∙ ap (λ y. kind_of y s.at k) e

roll : (f : StmtKind) (g : Puts) (s : Stmt) (k : Body) → kind_of f ≡ g → s.kind ≡ f → stmt_of s k ≡ g s.at k
roll f g s k h e = of_kind s f k e ∙ ap (λ p. p s.at k) h

pub is_break : (s : Stmt) (k : Body) → s.kind ≡ kind.Break → stmt_of s k ≡ BreakStmt s.at k
is_break s k = roll kind.Break BreakStmt s k kind_break

pub is_continue : (s : Stmt) (k : Body) → s.kind ≡ kind.Continue → stmt_of s k ≡ ContinueStmt s.at k
is_continue s k = roll kind.Continue ContinueStmt s k kind_continue

pub is_if : (s : Stmt) (e : Expr) (b : Vec Stmt Global) (k : Body) → s.kind ≡ kind.If e b None → stmt_of s k ≡ IfStmt s.at (expr_of e) (body_of b.items) k
is_if s e b k = roll (kind.If e b None) (λ at rest. IfStmt at (expr_of e) (body_of b.items) rest) s k (kind_if e b)

pub is_if_else : (s : Stmt) (e : Expr) (b c : Vec Stmt Global) (k : Body) → s.kind ≡ kind.If e b (Some c)
    → stmt_of s k ≡ IfElseStmt s.at (expr_of e) (body_of b.items) (body_of c.items) k
is_if_else s e b c k = roll (kind.If e b (Some c)) (λ at rest. IfElseStmt at (expr_of e) (body_of b.items) (body_of c.items) rest) s k (kind_if_else e b c)

pub is_for : (s : Stmt) (i : Option (Box Stmt Global)) (e : Option Expr) (t : Option (Box Stmt Global)) (b : Vec Stmt Global) (k : Body) → s.kind ≡ kind.For i e t b
    → stmt_of s k ≡ ForStmt s.at (simple_of i) (option_map expr_of e) (simple_of t) (body_of b.items) k
is_for s i e t b k = roll (kind.For i e t b) (λ at rest. ForStmt at (simple_of i) (option_map expr_of e) (simple_of t) (body_of b.items) rest) s k (kind_for i e t b)

pub is_block : (s : Stmt) (b : Vec Stmt Global) (k : Body) → s.kind ≡ kind.Block b → stmt_of s k ≡ BlockStmt s.at (body_of b.items) k
is_block s b k = roll (kind.Block b) (λ at rest. BlockStmt at (body_of b.items) rest) s k (kind_block b)

pub is_while : (s : Stmt) (e : Expr) (b : Vec Stmt Global) (k : Body) → s.kind ≡ kind.While e b → stmt_of s k ≡ WhileStmt s.at (expr_of e) (body_of b.items) k
is_while s e b k = roll (kind.While e b) (λ at rest. WhileStmt at (expr_of e) (body_of b.items) rest) s k (kind_while e b)

pub is_loop : (s : Stmt) (b : Vec Stmt Global) (k : Body) → s.kind ≡ kind.Loop b → stmt_of s k ≡ LoopStmt s.at (body_of b.items) k
is_loop s b k = roll (kind.Loop b) (λ at rest. LoopStmt at (body_of b.items) rest) s k (kind_loop b)

pub is_return : (s : Stmt) (e : Option Expr) (k : Body) → s.kind ≡ kind.Return e → stmt_of s k ≡ ReturnStmt s.at (option_map expr_of e) k
is_return s e k = roll (kind.Return e) (λ at rest. ReturnStmt at (option_map expr_of e) rest) s k (kind_return e)

pub is_throw : (s : Stmt) (e : Option Expr) (k : Body) → s.kind ≡ kind.Throw e → stmt_of s k ≡ ThrowStmt s.at (option_map expr_of e) k
is_throw s e k = roll (kind.Throw e) (λ at rest. ThrowStmt at (option_map expr_of e) rest) s k (kind_throw e)

pub is_try : (s : Stmt) (b : Vec Stmt Global) (p : Place) (x : Ident) (h : Vec Stmt Global) (k : Body) → s.kind ≡ kind.Try b p x h
    → stmt_of s k ≡ TryStmt s.at (body_of b.items) p x (body_of h.items) k
is_try s b p x h k = roll (kind.Try b p x h) (λ at rest. TryStmt at (body_of b.items) p x (body_of h.items) rest) s k (kind_try b p x h)

pub is_choose : (s : Stmt) (bs : Vec When Global) (k : Body) → s.kind ≡ kind.Choose bs → stmt_of s k ≡ ChooseStmt s.at (branches_of bs.items) k
is_choose s bs k = roll (kind.Choose bs) (λ at rest. ChooseStmt at (branches_of bs.items) rest) s k (kind_choose bs)

pub is_declare : (s : Stmt) (i : Into) (e : Option Expr) (k : Body) → s.kind ≡ kind.Declare i e → stmt_of s k ≡ DeclareStmt s.at (into_of i) (option_map expr_of e) k
is_declare s i e k = roll (kind.Declare i e) (λ at rest. DeclareStmt at (into_of i) (option_map expr_of e) rest) s k (kind_declare i e)

pub is_assign : (s : Stmt) (t : Target) (e : Expr) (k : Body) → s.kind ≡ kind.Assign t e → stmt_of s k ≡ AssignStmt s.at t.path.items (expr_of e) k
is_assign s t e k = roll (kind.Assign t e) (λ at rest. AssignStmt at t.path.items (expr_of e) rest) s k (kind_assign t e)

pub is_modify : (s : Stmt) (t : Target) (d : Change) (k : Body) → s.kind ≡ kind.Modify t d → stmt_of s k ≡ ModifyStmt s.at t.path.items (change_of d) k
is_modify s t d k = roll (kind.Modify t d) (λ at rest. ModifyStmt at t.path.items (change_of d) rest) s k (kind_modify t d)

pub is_call : (s : Stmt) (t : Target) (es : Vec Expr Global) (k : Body) → s.kind ≡ kind.Call t es → stmt_of s k ≡ CallStmt s.at t.path.items (exprs_of es.items) k
is_call s t es k = roll (kind.Call t es) (λ at rest. CallStmt at t.path.items (exprs_of es.items) rest) s k (kind_call t es)

pub is_wait : (s : Stmt) (w : Waiting) (k : Body) → s.kind ≡ kind.Wait w → stmt_of s k ≡ WaitStmt s.at (waiting_of w) k
is_wait s w k = roll (kind.Wait w) (λ at rest. WaitStmt at (waiting_of w) rest) s k (kind_wait w)

-- a branch, put before others
pub when_is : (w : When) → branch_of w ≡ (λ bs. MoreBranches (out-When w).at (waiting_of (out-When w).waiting) (body_of (out-When w).body.items) bs)
when_is w = fold_out-When Puts (Body → Body) (Branches → Branches) kind_step stmt_step branch_step w
