-- What each kind of statement, put before a body at a place, comes to.
use Rattle.std.proofs.Common.{◌≡◌, ap, sym, refl, ◌∙◌, ℕ, List}
use Rattle.std.specs.Option.{option_map}
use Rattle.std.specs.declared.option.Option.{Option}
use Rattle.std.specs.declared.option.Option.TheVariants.{None, Some}
use Rattle.std.specs.declared.alloc.Global.{Global}
use Rattle.std.specs.declared.boxed.Box.{Box}
use Rattle.std.specs.declared.vec.Vec.{Vec}
use Rattle.flow_base.specs.declared.place.Place.{Place}
use Rattle.flow_tree.specs.declared.ty.Ident.{Ident}
use Rattle.flow_tree.specs.declared.expr.Expr.{Expr}
use Rattle.flow_tree.specs.declared.stmt.Into as code
use Rattle.flow_tree.specs.declared.stmt.Target.{Target}
use Rattle.flow_tree.specs.declared.stmt.Change.{Change}
use Rattle.flow_tree.specs.declared.stmt.When.{When}
use Rattle.flow_tree.specs.declared.stmt.Waiting.{Waiting}
use Rattle.std.proofs.Common.{subst}
use Rattle.std.specs.declared.result.Result.{Result}
use Rattle.flow_eval.specs.declared.stop.Halt.{Halt}
use Rattle.flow_eval.specs.declared.statements.Flow.{Flow}
use Rattle.flow_tree.specs.declared.stmt.Stmt.{Stmt, out-Stmt}
use Rattle.flow_tree.specs.declared.stmt.StmtKind.{StmtKind}
use Rattle.flow_tree.specs.declared.stmt.StmtKind.TheVariants as kind
use Rattle.flow_tree.specs.View.{expr_of, exprs_of}
use Rattle.flow_tree.specs.StmtView.{into_of, change_of, kind_of, simple_of, else_of, body_of, stmt_of}
use Rattle.flow_tree.specs.Body.{Body}
use Rattle.flow_tree.proofs.Views.{stmt_is, kind_block, kind_if, kind_if_else, kind_while, kind_for, kind_loop, kind_return, kind_throw, kind_try, kind_declare, kind_assign, kind_modify, kind_call, kind_choose, kind_wait, kind_break, kind_continue}
use Rattle.flow_eval.specs.Eval.{Setting, Runner}
use Rattle.flow_eval.specs.Functions.{Locals, Run, Breaks, Continues, NoRun, after, exec, scope, skip, if_run, loop_run, for_run, try_run, return_run, throw_run, declare_run, assign_run, modify_run, call_run}
use Rattle.flow_eval.specs.View.{else_run, StmtRan}

abbrev Puts : Type 0
Puts = Place → Body → Body

module _ (s : Setting) (run : Runner) (caught : Option (List ℕ)) (vars : Locals) (left : ℕ) (at : Place) where
  -- a kind that is put so comes to what the definition says of it
  abbrev Comes : StmtKind → Run → Type 0
  Comes q r = (k : Body) → exec s run (kind_of q at k) caught vars left ≡ after r (exec s run k caught)

  put_as : (q : StmtKind) (f : Puts) (r : Run) → kind_of q ≡ f → ((k : Body) → exec s run (f at k) caught vars left ≡ after r (exec s run k caught)) → Comes q r
  put_as q f r e h = λ k. ap (λ (f : Puts). exec s run (f at k) caught vars left) e ∙ h k

  pub comes_block : (q : StmtKind) (b : Vec Stmt Global) → q ≡ kind.Block b → Comes q (scope (exec s run (body_of b.items) caught) vars left)
  comes_block q b e = put_as q _ _ (ap kind_of e ∙ kind_block b) (λ k. refl)

  pub comes_while : (q : StmtKind) (t : Expr) (b : Vec Stmt Global) → q ≡ kind.While t b → Comes q (loop_run s run (Some (expr_of t)) skip (exec s run (body_of b.items) caught) vars left)
  comes_while q t b e = put_as q _ _ (ap kind_of e ∙ kind_while t b) (λ k. refl)

  pub comes_loop : (q : StmtKind) (b : Vec Stmt Global) → q ≡ kind.Loop b → Comes q (loop_run s run None skip (exec s run (body_of b.items) caught) vars left)
  comes_loop q b e = put_as q _ _ (ap kind_of e ∙ kind_loop b) (λ k. refl)

  pub comes_for : (q : StmtKind) (i : Option (Box Stmt Global)) (t : Option Expr) (u : Option (Box Stmt Global)) (b : Vec Stmt Global) → q ≡ kind.For i t u b
      → Comes q (scope (for_run s run (exec s run (simple_of i) caught) (option_map expr_of t) (exec s run (simple_of u) caught) (exec s run (body_of b.items) caught)) vars left)
  comes_for q i t u b e = put_as q _ _ (ap kind_of e ∙ kind_for i t u b) (λ k. refl)

  pub comes_try : (q : StmtKind) (b : Vec Stmt Global) (p : Place) (x : Ident) (h : Vec Stmt Global) → q ≡ kind.Try b p x h
      → Comes q (try_run (exec s run (body_of b.items) caught) x.name (exec s run (body_of h.items) (Some x.name)) vars left)
  comes_try q b p x h e = put_as q _ _ (ap kind_of e ∙ kind_try b p x h) (λ k. refl)

  pub comes_if : (q : StmtKind) (t : Expr) (b : Vec Stmt Global) (o : Option (Vec Stmt Global)) → q ≡ kind.If t b o
      → Comes q (if_run s run (expr_of t) (scope (exec s run (body_of b.items) caught)) (else_run s run (else_of o) caught) vars left)
  comes_if q t b None e = put_as q _ _ (ap kind_of e ∙ kind_if t b) (λ k. refl)
  comes_if q t b (Some o) e = put_as q _ _ (ap kind_of e ∙ kind_if_else t b o) (λ k. refl)

  pub comes_modify : (q : StmtKind) (t : Target) (c : Change) → q ≡ kind.Modify t c → Comes q (modify_run s run t.path.items (change_of c) vars left)
  comes_modify q t c e = put_as q _ _ (ap kind_of e ∙ kind_modify t c) (λ k. refl)

  pub comes_return : (q : StmtKind) (v : Option Expr) → q ≡ kind.Return v → Comes q (return_run s run (option_map expr_of v) vars left)
  comes_return q v e = put_as q _ _ (ap kind_of e ∙ kind_return v) (λ k. refl)

  pub comes_throw : (q : StmtKind) (v : Option Expr) → q ≡ kind.Throw v → Comes q (throw_run s run (option_map expr_of v) caught vars left)
  comes_throw q v e = put_as q _ _ (ap kind_of e ∙ kind_throw v) (λ k. refl)

  pub comes_declare : (q : StmtKind) (i : code.Into) (v : Option Expr) → q ≡ kind.Declare i v → Comes q (declare_run s run (into_of i) (option_map expr_of v) vars left)
  comes_declare q i v e = put_as q _ _ (ap kind_of e ∙ kind_declare i v) (λ k. refl)

  pub comes_assign : (q : StmtKind) (t : Target) (v : Expr) → q ≡ kind.Assign t v → Comes q (assign_run s run t.path.items (expr_of v) vars left)
  comes_assign q t v e = put_as q _ _ (ap kind_of e ∙ kind_assign t v) (λ k. refl)

  pub comes_call : (q : StmtKind) (t : Target) (vs : Vec Expr Global) → q ≡ kind.Call t vs → Comes q (call_run s run t.path.items (exprs_of vs.items) vars left)
  comes_call q t vs e = put_as q _ _ (ap kind_of e ∙ kind_call t vs) (λ k. refl)

  -- a kind behind which nothing runs
  abbrev Ends : StmtKind → Run → Type 0
  Ends q r = (k : Body) → exec s run (kind_of q at k) caught vars left ≡ r

  ends_as : (q : StmtKind) (f : Puts) (r : Run) → kind_of q ≡ f → ((k : Body) → exec s run (f at k) caught vars left ≡ r) → Ends q r
  ends_as q f r e h = λ k. ap (λ (f : Puts). exec s run (f at k) caught vars left) e ∙ h k

  pub ends_break : (q : StmtKind) → q ≡ kind.Break → Ends q (Breaks vars left)
  ends_break q e = ends_as q _ _ (ap kind_of e ∙ kind_break) (λ k. refl)

  pub ends_continue : (q : StmtKind) → q ≡ kind.Continue → Ends q (Continues vars left)
  ends_continue q e = ends_as q _ _ (ap kind_of e ∙ kind_continue) (λ k. refl)

  pub ends_choose : (q : StmtKind) (bs : Vec When Global) → q ≡ kind.Choose bs → Ends q NoRun
  ends_choose q bs e = ends_as q _ _ (ap kind_of e ∙ kind_choose bs) (λ k. refl)

  pub ends_wait : (q : StmtKind) (w : Waiting) → q ≡ kind.Wait w → Ends q NoRun
  ends_wait q w e = ends_as q _ _ (ap kind_of e ∙ kind_wait w) (λ k. refl)

pub stmt_ran : (s : Setting) (run : Runner) (caught : Option (List ℕ)) (vars : Locals) (left : ℕ) (stmt : Stmt) (q : Result Flow Halt) (ws : Locals) (rest : ℕ)
    → StmtRan (λ k. exec s run (kind_of (out-Stmt stmt).kind (out-Stmt stmt).at k) caught vars left) (λ k. exec s run k caught) q ws rest
    → StmtRan (λ k. exec s run (stmt_of stmt k) caught vars left) (λ k. exec s run k caught) q ws rest
stmt_ran s run caught vars left stmt q ws rest h =
    subst (λ (p : Body → Body). StmtRan (λ k. exec s run (p k) caught vars left) (λ k. exec s run k caught) q ws rest) (sym (stmt_is stmt)) h
