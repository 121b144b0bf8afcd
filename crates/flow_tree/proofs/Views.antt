-- The mirror of each node of the code's trees.
use Rattle.std.proofs.Common.{◌≡◌, sym, ap, ap₂, subst, ◌∙◌}
use Rattle.std.specs.Option.{option_map}
use Rattle.std.specs.declared.option.Option.{Option}
use Rattle.std.specs.declared.option.Option.TheVariants.{None, Some}
use Rattle.std.specs.declared.alloc.Global.{Global}
use Rattle.std.specs.declared.boxed.Box.{Box}
use Rattle.std.specs.declared.vec.Vec.{Vec}
use Rattle.flow_base.specs.declared.place.Place.{Place}
use Rattle.flow_tree.specs.declared.ty.Ident.{Ident}
use Rattle.flow_tree.specs.declared.ty.Ty.{Ty}
use Rattle.flow_tree.specs.declared.ty.Ty.TheOpen as type_layer
use Rattle.flow_tree.specs.declared.ty.Ty.TheOpen.{Ty-F}
use Rattle.flow_tree.specs.declared.ty.Ty.TheVariants as type
use Rattle.flow_tree.specs.declared.ty.Ty.TheFolds.{fold-roll-Ty, fold_out-Ty}
use Rattle.flow_tree.specs.declared.expr.Op.{Op}
use Rattle.flow_tree.specs.declared.expr.Expr.{Expr}
use Rattle.flow_tree.specs.declared.expr.Expr.TheOpen as expr_layer
use Rattle.flow_tree.specs.declared.expr.Expr.TheVariants as expr
use Rattle.flow_tree.specs.declared.expr.Expr.TheFolds.{fold-roll-Expr}
use Rattle.flow_tree.specs.declared.stmt.Into.{Into}
use Rattle.flow_tree.specs.declared.stmt.Target.{Target}
use Rattle.flow_tree.specs.declared.stmt.Waiting.{Waiting}
use Rattle.flow_tree.specs.declared.stmt.When.{When}
use Rattle.flow_tree.specs.declared.stmt.Change.{Change}
use Rattle.flow_tree.specs.declared.stmt.Stmt.{Stmt, out-Stmt, fold_out-Stmt}
use Rattle.flow_tree.specs.declared.stmt.StmtKind.{fold-roll-StmtKind}
use Rattle.flow_tree.specs.declared.stmt.StmtKind.TheOpen as layer
use Rattle.flow_tree.specs.declared.stmt.StmtKind.TheVariants as kind
use Rattle.flow_tree.specs.View.{type_of, type_step, expr_of, expr_step, exprs_of}
use Rattle.flow_tree.specs.StmtView.{into_of, waiting_of, change_of, kind_of, kind_step, stmt_of, stmt_step, branch_step, simple_of, body_of, branches_of}
use Rattle.flow_tree.specs.Tree.{ByName, TypeTree, ExprTree, FutureType, FutureStreamType, PromiseType, PromiseStreamType, VectorType, CallExpr, FieldExpr, MethodExpr, NotExpr, NegExpr, BinaryExpr, ParenExpr, indexed}
use Rattle.flow_tree.specs.Body.{Body, Branches, BlockStmt, IfStmt, IfElseStmt, WhileStmt, ForStmt, LoopStmt, BreakStmt, ContinueStmt, ReturnStmt, ThrowStmt, TryStmt, ChooseStmt, DeclareStmt, AssignStmt, ModifyStmt, CallStmt, WaitStmt}

pub type_future : (t : Box Ty Global) → type_of (type.Future t) ≡ FutureType (type_of t.value)
type_future t = ap type_of (sym (type.rolls-Future t)) ∙ fold-roll-Ty TypeTree type_step (type_layer.Future t)

pub type_future_stream : (t : Box Ty Global) → type_of (type.FutureStream t) ≡ FutureStreamType (type_of t.value)
type_future_stream t = ap type_of (sym (type.rolls-FutureStream t)) ∙ fold-roll-Ty TypeTree type_step (type_layer.FutureStream t)

pub type_promise : (t : Box Ty Global) → type_of (type.Promise t) ≡ PromiseType (type_of t.value)
type_promise t = ap type_of (sym (type.rolls-Promise t)) ∙ fold-roll-Ty TypeTree type_step (type_layer.Promise t)

pub type_promise_stream : (t : Box Ty Global) → type_of (type.PromiseStream t) ≡ PromiseStreamType (type_of t.value)
type_promise_stream t = ap type_of (sym (type.rolls-PromiseStream t)) ∙ fold-roll-Ty TypeTree type_step (type_layer.PromiseStream t)

pub type_vector : (t : Box Ty Global) → type_of (type.Vector t) ≡ VectorType (type_of t.value)
type_vector t = ap type_of (sym (type.rolls-Vector t)) ∙ fold-roll-Ty TypeTree type_step (type_layer.Vector t)

-- what holds of each layer of types holds of each type of the code
pub by_layer : (P : TypeTree → Type 0) → ((l : Ty-F TypeTree) → P (type_step l)) → (t : Ty) → P (type_of t)
by_layer P h t = subst P (sym (fold_out-Ty TypeTree type_step t)) (h _)

pub expr_call : (f : Ident) (xs : Vec Expr Global) → expr_of (expr.Call f xs) ≡ CallExpr f (exprs_of xs.items)
expr_call f xs = ap expr_of (sym (expr.rolls-Call f xs)) ∙ fold-roll-Expr ExprTree expr_step (expr_layer.Call f xs)

pub expr_field : (e : Box Expr Global) (x : Ident) → expr_of (expr.Field e x) ≡ FieldExpr (expr_of e.value) x
expr_field e x = ap expr_of (sym (expr.rolls-Field e x)) ∙ fold-roll-Expr ExprTree expr_step (expr_layer.Field e x)

pub expr_method : (e : Box Expr Global) (f : Ident) (xs : Vec Expr Global) → expr_of (expr.Method e f xs) ≡ MethodExpr (expr_of e.value) (ByName f) (exprs_of xs.items)
expr_method e f xs = ap expr_of (sym (expr.rolls-Method e f xs)) ∙ fold-roll-Expr ExprTree expr_step (expr_layer.Method e f xs)

pub expr_index : (e i : Box Expr Global) → expr_of (expr.Index e i) ≡ indexed (expr_of e.value) (expr_of i.value)
expr_index e i = ap expr_of (sym (expr.rolls-Index e i)) ∙ fold-roll-Expr ExprTree expr_step (expr_layer.Index e i)

pub expr_not : (e : Box Expr Global) → expr_of (expr.Not e) ≡ NotExpr (expr_of e.value)
expr_not e = ap expr_of (sym (expr.rolls-Not e)) ∙ fold-roll-Expr ExprTree expr_step (expr_layer.Not e)

pub expr_neg : (e : Box Expr Global) → expr_of (expr.Neg e) ≡ NegExpr (expr_of e.value)
expr_neg e = ap expr_of (sym (expr.rolls-Neg e)) ∙ fold-roll-Expr ExprTree expr_step (expr_layer.Neg e)

pub expr_binary : (op : Op) (a b : Box Expr Global) → expr_of (expr.Binary op a b) ≡ BinaryExpr op (expr_of a.value) (expr_of b.value)
expr_binary op a b = ap expr_of (sym (expr.rolls-Binary op a b)) ∙ fold-roll-Expr ExprTree expr_step (expr_layer.Binary op a b)

pub expr_paren : (e : Box Expr Global) → expr_of (expr.Paren e) ≡ ParenExpr (expr_of e.value)
expr_paren e = ap expr_of (sym (expr.rolls-Paren e)) ∙ fold-roll-Expr ExprTree expr_step (expr_layer.Paren e)

-- a kind of statement is the function that puts it before a body, at a place
abbrev Puts : Type 0
Puts = Place → Body → Body

-- a statement is its kind, at its place
pub stmt_is : (s : Stmt) → stmt_of s ≡ kind_of (out-Stmt s).kind (out-Stmt s).at
stmt_is s = fold_out-Stmt Puts (Body → Body) (Branches → Branches) kind_step stmt_step branch_step s

pub kind_modify : (t : Target) (c : Change) → kind_of (kind.Modify t c) ≡ (λ at rest. ModifyStmt at t.path.items (change_of c) rest)
kind_modify t c = ap kind_of (sym (kind.rolls-Modify t c)) ∙ fold-roll-StmtKind Puts (Body → Body) (Branches → Branches) kind_step stmt_step branch_step (layer.Modify t c)

pub kind_while : (e : Expr) (b : Vec Stmt Global) → kind_of (kind.While e b) ≡ (λ at rest. WhileStmt at (expr_of e) (body_of b.items) rest)
kind_while e b = ap kind_of (sym (kind.rolls-While e b)) ∙ fold-roll-StmtKind Puts (Body → Body) (Branches → Branches) kind_step stmt_step branch_step (layer.While e b)

pub kind_block : (b : Vec Stmt Global) → kind_of (kind.Block b) ≡ (λ at rest. BlockStmt at (body_of b.items) rest)
kind_block b = ap kind_of (sym (kind.rolls-Block b)) ∙ fold-roll-StmtKind Puts (Body → Body) (Branches → Branches) kind_step stmt_step branch_step (layer.Block b)

pub kind_loop : (b : Vec Stmt Global) → kind_of (kind.Loop b) ≡ (λ at rest. LoopStmt at (body_of b.items) rest)
kind_loop b = ap kind_of (sym (kind.rolls-Loop b)) ∙ fold-roll-StmtKind Puts (Body → Body) (Branches → Branches) kind_step stmt_step branch_step (layer.Loop b)

pub kind_try : (b : Vec Stmt Global) (p : Place) (x : Ident) (h : Vec Stmt Global) → kind_of (kind.Try b p x h) ≡ (λ at rest. TryStmt at (body_of b.items) p x (body_of h.items) rest)
kind_try b p x h = ap kind_of (sym (kind.rolls-Try b p x h)) ∙ fold-roll-StmtKind Puts (Body → Body) (Branches → Branches) kind_step stmt_step branch_step (layer.Try b p x h)

pub kind_if : (e : Expr) (b : Vec Stmt Global) → kind_of (kind.If e b None) ≡ (λ at rest. IfStmt at (expr_of e) (body_of b.items) rest)
kind_if e b = ap kind_of (sym (kind.rolls-If e b None)) ∙ fold-roll-StmtKind Puts (Body → Body) (Branches → Branches) kind_step stmt_step branch_step (layer.If e b None)

pub kind_if_else : (e : Expr) (b o : Vec Stmt Global) → kind_of (kind.If e b (Some o)) ≡ (λ at rest. IfElseStmt at (expr_of e) (body_of b.items) (body_of o.items) rest)
kind_if_else e b o = ap kind_of (sym (kind.rolls-If e b (Some o))) ∙ fold-roll-StmtKind Puts (Body → Body) (Branches → Branches) kind_step stmt_step branch_step (layer.If e b (Some o))

pub kind_return : (e : Option Expr) → kind_of (kind.Return e) ≡ (λ at rest. ReturnStmt at (option_map expr_of e) rest)
kind_return e = ap kind_of (sym (kind.rolls-Return e)) ∙ fold-roll-StmtKind Puts (Body → Body) (Branches → Branches) kind_step stmt_step branch_step (layer.Return e)

pub kind_throw : (e : Option Expr) → kind_of (kind.Throw e) ≡ (λ at rest. ThrowStmt at (option_map expr_of e) rest)
kind_throw e = ap kind_of (sym (kind.rolls-Throw e)) ∙ fold-roll-StmtKind Puts (Body → Body) (Branches → Branches) kind_step stmt_step branch_step (layer.Throw e)

pub kind_declare : (i : Into) (e : Option Expr) → kind_of (kind.Declare i e) ≡ (λ at rest. DeclareStmt at (into_of i) (option_map expr_of e) rest)
kind_declare i e = ap kind_of (sym (kind.rolls-Declare i e)) ∙ fold-roll-StmtKind Puts (Body → Body) (Branches → Branches) kind_step stmt_step branch_step (layer.Declare i e)

pub kind_assign : (t : Target) (e : Expr) → kind_of (kind.Assign t e) ≡ (λ at rest. AssignStmt at t.path.items (expr_of e) rest)
kind_assign t e = ap kind_of (sym (kind.rolls-Assign t e)) ∙ fold-roll-StmtKind Puts (Body → Body) (Branches → Branches) kind_step stmt_step branch_step (layer.Assign t e)

pub kind_call : (t : Target) (es : Vec Expr Global) → kind_of (kind.Call t es) ≡ (λ at rest. CallStmt at t.path.items (exprs_of es.items) rest)
kind_call t es = ap kind_of (sym (kind.rolls-Call t es)) ∙ fold-roll-StmtKind Puts (Body → Body) (Branches → Branches) kind_step stmt_step branch_step (layer.Call t es)

pub kind_choose : (bs : Vec When Global) → kind_of (kind.Choose bs) ≡ (λ at rest. ChooseStmt at (branches_of bs.items) rest)
kind_choose bs = ap kind_of (sym (kind.rolls-Choose bs)) ∙ fold-roll-StmtKind Puts (Body → Body) (Branches → Branches) kind_step stmt_step branch_step (layer.Choose bs)

pub kind_wait : (w : Waiting) → kind_of (kind.Wait w) ≡ (λ at rest. WaitStmt at (waiting_of w) rest)
kind_wait w = ap kind_of (sym (kind.rolls-Wait w)) ∙ fold-roll-StmtKind Puts (Body → Body) (Branches → Branches) kind_step stmt_step branch_step (layer.Wait w)

pub kind_break : kind_of kind.Break ≡ BreakStmt
kind_break = ap kind_of (sym kind.rolls-Break) ∙ fold-roll-StmtKind Puts (Body → Body) (Branches → Branches) kind_step stmt_step branch_step layer.Break

pub kind_continue : kind_of kind.Continue ≡ ContinueStmt
kind_continue = ap kind_of (sym kind.rolls-Continue) ∙ fold-roll-StmtKind Puts (Body → Body) (Branches → Branches) kind_step stmt_step branch_step layer.Continue

-- a `for` is unrolled with its init and step known to be there or not
abbrev ForIs : Option (Box Stmt Global) → Option Expr → Option (Box Stmt Global) → Vec Stmt Global → Type 0
ForIs i e s b = kind_of (kind.For i e s b) ≡ (λ at rest. ForStmt at (simple_of i) (option_map expr_of e) (simple_of s) (body_of b.items) rest)

pub kind_for : (i : Option (Box Stmt Global)) (e : Option Expr) (s : Option (Box Stmt Global)) (b : Vec Stmt Global) → ForIs i e s b
kind_for None e None b = ap kind_of (sym (kind.rolls-For None e None b)) ∙ fold-roll-StmtKind Puts (Body → Body) (Branches → Branches) kind_step stmt_step branch_step (layer.For None e None b)
kind_for None e (Some s) b = ap kind_of (sym (kind.rolls-For None e (Some s) b))
    ∙ fold-roll-StmtKind Puts (Body → Body) (Branches → Branches) kind_step stmt_step branch_step (layer.For None e (Some s) b)
kind_for (Some i) e None b = ap kind_of (sym (kind.rolls-For (Some i) e None b))
    ∙ fold-roll-StmtKind Puts (Body → Body) (Branches → Branches) kind_step stmt_step branch_step (layer.For (Some i) e None b)
kind_for (Some i) e (Some s) b = ap kind_of (sym (kind.rolls-For (Some i) e (Some s) b))
    ∙ fold-roll-StmtKind Puts (Body → Body) (Branches → Branches) kind_step stmt_step branch_step (layer.For (Some i) e (Some s) b)

-- a change of a variable, and a `for`, are told by the mirrors of their parts
pub modify_same : (t u : Target) (c d : Change) → t.path.items ≡ u.path.items → change_of c ≡ change_of d → kind_of (kind.Modify t c) ≡ kind_of (kind.Modify u d)
modify_same t u c d path change =
    kind_modify t c ∙ ap₂ (λ p x. λ at rest. ModifyStmt at p x rest) path change ∙ sym (kind_modify u d)

pub for_same : (i j : Option (Box Stmt Global)) (e f : Option Expr) (s r : Option (Box Stmt Global)) (b c : Vec Stmt Global)
    → simple_of i ≡ simple_of j → option_map expr_of e ≡ option_map expr_of f → simple_of s ≡ simple_of r → body_of b.items ≡ body_of c.items
    → kind_of (kind.For i e s b) ≡ kind_of (kind.For j f r c)
for_same i j e f s r b c init test step body =
    kind_for i e s b
    ∙ ap₂ (λ x y. λ at rest. ForStmt at x y (simple_of s) (body_of b.items) rest) init test
    ∙ ap₂ (λ x y. λ at rest. ForStmt at (simple_of j) (option_map expr_of f) x y rest) step body
    ∙ sym (kind_for j f r c)
