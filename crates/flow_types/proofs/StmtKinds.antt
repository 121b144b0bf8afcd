-- Each kind of statement, and each branch, by what it is put before a body as.
use Rattle.std.proofs.Common.{◌≡◌, Result, sym, ap, subst, ◌∙◌}
use Rattle.std.specs.Option.{option_map}
use Rattle.std.specs.declared.option.Option.{Option}
use Rattle.std.specs.declared.option.Option.TheVariants.{None, Some}
use Rattle.std.specs.declared.alloc.Global.{Global}
use Rattle.std.specs.declared.boxed.Box.{Box}
use Rattle.std.specs.declared.vec.Vec.{Vec}
use Rattle.flow_base.specs.declared.place.Place.{Place}
use Rattle.flow_tree.specs.declared.fault.SourceFault.{SourceFault}
use Rattle.flow_tree.specs.declared.ty.Ident.{Ident}
use Rattle.flow_tree.specs.declared.expr.Expr.{Expr}
use Rattle.flow_tree.specs.declared.stmt.Into as code
use Rattle.flow_tree.specs.declared.stmt.Target.{Target}
use Rattle.flow_tree.specs.declared.stmt.Waiting.{Waiting}
use Rattle.flow_tree.specs.declared.stmt.When.{When, out-When, fold_out-When}
use Rattle.flow_tree.specs.declared.stmt.Stmt.{Stmt, out-Stmt}
use Rattle.flow_tree.specs.declared.stmt.StmtKind.{StmtKind}
use Rattle.flow_tree.specs.declared.stmt.StmtKind.TheVariants as kind
use Rattle.flow_tree.specs.View.{expr_of}
use Rattle.flow_tree.specs.StmtView.{into_of, waiting_of, kind_of, kind_step, stmt_step, branch_step, simple_of, else_of, body_of, branches_of, branch_of, stmt_of}
use Rattle.flow_tree.specs.Body.{Body, Branches, BlockStmt, WhileStmt, ForStmt, LoopStmt, TryStmt, ChooseStmt, DeclareStmt, AssignStmt, WaitStmt, IfStmt, IfElseStmt, MoreBranches}
use Rattle.flow_tree.proofs.Views.{stmt_is, kind_block, kind_if, kind_if_else, kind_while, kind_for, kind_loop, kind_try, kind_choose, kind_declare, kind_assign, kind_wait}
use Rattle.flow_rules.specs.Items.{Env}
use Rattle.flow_types.specs.WalkView.{StmtAnswer, BranchAnswer}
use Rattle.flow_types.proofs.Fails.{if_or}

abbrev Puts : Type 0
Puts = Place → Body → Body

-- a statement is its kind, at its place
stmt_as : (s : Stmt) (f : Puts) → kind_of (out-Stmt s).kind ≡ f → stmt_of s ≡ f (out-Stmt s).at
stmt_as s f e =
    stmt_is s ∙ ap (λ (p : Puts). p (out-Stmt s).at) e

module _ (s : Stmt) where
  abbrev own : StmtKind
  own = (out-Stmt s).kind

  abbrev place : Place
  place = (out-Stmt s).at

  pub stmt_block : (b : Vec Stmt Global) → own ≡ kind.Block b → stmt_of s ≡ BlockStmt place (body_of b.items)
  stmt_block b e =
      stmt_as s (λ at rest. BlockStmt at (body_of b.items) rest) (ap kind_of e ∙ kind_block b)

  pub stmt_while : (t : Expr) (b : Vec Stmt Global) → own ≡ kind.While t b → stmt_of s ≡ WhileStmt place (expr_of t) (body_of b.items)
  stmt_while t b e =
      stmt_as s (λ at rest. WhileStmt at (expr_of t) (body_of b.items) rest) (ap kind_of e ∙ kind_while t b)

  pub stmt_loop : (b : Vec Stmt Global) → own ≡ kind.Loop b → stmt_of s ≡ LoopStmt place (body_of b.items)
  stmt_loop b e =
      stmt_as s (λ at rest. LoopStmt at (body_of b.items) rest) (ap kind_of e ∙ kind_loop b)

  pub stmt_try : (b : Vec Stmt Global) (q : Place) (x : Ident) (h : Vec Stmt Global) → own ≡ kind.Try b q x h → stmt_of s ≡ TryStmt place (body_of b.items) q x (body_of h.items)
  stmt_try b q x h e =
      stmt_as s (λ at rest. TryStmt at (body_of b.items) q x (body_of h.items) rest) (ap kind_of e ∙ kind_try b q x h)

  pub stmt_choose : (bs : Vec When Global) → own ≡ kind.Choose bs → stmt_of s ≡ ChooseStmt place (branches_of bs.items)
  stmt_choose bs e =
      stmt_as s (λ at rest. ChooseStmt at (branches_of bs.items) rest) (ap kind_of e ∙ kind_choose bs)

  pub stmt_declare : (i : code.Into) (v : Option Expr) → own ≡ kind.Declare i v → stmt_of s ≡ DeclareStmt place (into_of i) (option_map expr_of v)
  stmt_declare i v e =
      stmt_as s (λ at rest. DeclareStmt at (into_of i) (option_map expr_of v) rest) (ap kind_of e ∙ kind_declare i v)

  pub stmt_assign : (t : Target) (v : Expr) → own ≡ kind.Assign t v → stmt_of s ≡ AssignStmt place t.path.items (expr_of v)
  stmt_assign t v e =
      stmt_as s (λ at rest. AssignStmt at t.path.items (expr_of v) rest) (ap kind_of e ∙ kind_assign t v)

  pub stmt_wait : (w : Waiting) → own ≡ kind.Wait w → stmt_of s ≡ WaitStmt place (waiting_of w)
  stmt_wait w e =
      stmt_as s (λ at rest. WaitStmt at (waiting_of w) rest) (ap kind_of e ∙ kind_wait w)

  pub stmt_if : (t : Expr) (b : Vec Stmt Global) (o : Option (Vec Stmt Global)) → own ≡ kind.If t b o → stmt_of s ≡ if_or place (expr_of t) (body_of b.items) (else_of o)
  stmt_if t b None e =
      stmt_as s (λ at rest. IfStmt at (expr_of t) (body_of b.items) rest) (ap kind_of e ∙ kind_if t b)
  stmt_if t b (Some c) e =
      stmt_as s (λ at rest. IfElseStmt at (expr_of t) (body_of b.items) (body_of c.items) rest) (ap kind_of e ∙ kind_if_else t b c)

  pub stmt_for : (i : Option (Box Stmt Global)) (t : Option Expr) (n : Option (Box Stmt Global)) (b : Vec Stmt Global) → own ≡ kind.For i t n b
      → stmt_of s ≡ ForStmt place (simple_of i) (option_map expr_of t) (simple_of n) (body_of b.items)
  stmt_for None t None b e =
      stmt_as s (λ at rest. ForStmt at (simple_of None) (option_map expr_of t) (simple_of None) (body_of b.items) rest) (ap kind_of e ∙ kind_for None t None b)
  stmt_for None t (Some n) b e =
      stmt_as s (λ at rest. ForStmt at (simple_of None) (option_map expr_of t) (simple_of (Some n)) (body_of b.items) rest) (ap kind_of e ∙ kind_for None t (Some n) b)
  stmt_for (Some i) t None b e =
      stmt_as s (λ at rest. ForStmt at (simple_of (Some i)) (option_map expr_of t) (simple_of None) (body_of b.items) rest) (ap kind_of e ∙ kind_for (Some i) t None b)
  stmt_for (Some i) t (Some n) b e =
      stmt_as s (λ at rest. ForStmt at (simple_of (Some i)) (option_map expr_of t) (simple_of (Some n)) (body_of b.items) rest) (ap kind_of e ∙ kind_for (Some i) t (Some n) b)

-- what is answered for a statement is answered for what it is
pub answer_as : (e new : Env) (f g : Body → Body) (r : Result (Unit {0}) SourceFault) → f ≡ g → StmtAnswer e new g r → StmtAnswer e new f r
answer_as e new f g r is h = subst (λ p. StmtAnswer e new p r) (sym is) h

-- a branch, and what is answered for it
branch_is : (w : When) → branch_of w ≡ MoreBranches (out-When w).at (waiting_of (out-When w).waiting) (body_of (out-When w).body.items)
branch_is w = fold_out-When Puts (Body → Body) (Branches → Branches) kind_step stmt_step branch_step w

pub branch_answer : (e new : Env) (w : When) (r : Result (Unit {0}) SourceFault)
    → BranchAnswer e new (MoreBranches (out-When w).at (waiting_of (out-When w).waiting) (body_of (out-When w).body.items)) r → BranchAnswer e new (branch_of w) r
branch_answer e new w r h = subst (λ p. BranchAnswer e new p r) (sym (branch_is w)) h
