-- What a statement of each kind emits is what the statement emits.
use Rattle.std.proofs.Common.{◌≡◌, true, List, [], ◌∷◌, sym, subst}
use Rattle.std.specs.Option.{option_map}
use Rattle.std.specs.declared.option.Option.{Option}
use Rattle.std.specs.declared.option.Option.TheVariants.{None, Some}
use Rattle.std.specs.declared.alloc.Global.{Global}
use Rattle.std.specs.declared.boxed.Box.{Box}
use Rattle.std.specs.declared.vec.Vec.{Vec}
use Rattle.flow_base.specs.declared.place.Place.{Place}
use Rattle.flow_tree.specs.declared.ty.Ident.{Ident}
use Rattle.flow_tree.specs.declared.expr.Expr.{Expr}
use Rattle.flow_tree.specs.declared.stmt.Into.{Into}
use Rattle.flow_tree.specs.declared.stmt.Waiting.{Waiting}
use Rattle.flow_tree.specs.declared.stmt.Target.{Target}
use Rattle.flow_tree.specs.declared.stmt.Change.{Change}
use Rattle.flow_tree.specs.declared.stmt.When.{When}
use Rattle.flow_tree.specs.declared.stmt.Stmt.{Stmt}
use Rattle.flow_tree.specs.declared.stmt.StmtKind.TheVariants as kind
use Rattle.flow_tree.specs.View.{expr_of, exprs_of}
use Rattle.flow_tree.specs.StmtView.{into_of, waiting_of, change_of, stmt_of, body_of, branches_of, simple_of}
use Rattle.flow_tree.specs.Body.{Body, BlockStmt, IfStmt, IfElseStmt, WhileStmt, ForStmt, LoopStmt, BreakStmt, ContinueStmt, ReturnStmt, ThrowStmt, TryStmt, ChooseStmt, DeclareStmt, AssignStmt, ModifyStmt, CallStmt, WaitStmt}
use Rattle.flow_tree.specs.Decls.{SlotTree}
use Rattle.flow_class.specs.Classes.{GotoLast, ActInstr, ReturnLast, ThrowLast}
use Rattle.flow_class.specs.Scopes.{over, over_all, path_over, act_over}
use Rattle.flow_meaning.specs.Evaluating.{Names}
use Rattle.flow_meaning.specs.Items.{change}
use Rattle.flow_layout.proofs.StmtKinds.{is_block, is_while, is_loop, is_if, is_if_else, is_for, is_break, is_continue, is_return, is_throw, is_try, is_choose, is_declare, is_assign, is_modify, is_call, is_wait}
use Rattle.flow_split.specs.Around.{Around}
use Rattle.flow_split.specs.Lowered.{assigned, changed, declares, thrown}
use Rattle.flow_split.specs.Emitting.{Emitted, closed, acted, declaring, shut_by, Emits}
use Rattle.flow_split.proofs.Exits.{break_emits, continue_emits}
use Rattle.flow_split.proofs.Simples.{return_emits, throw_emits, declare_emits, assign_emits, modify_emits, call_emits}

module _ (ns : Names) (slots : List SlotTree) (w : Around) (s : Stmt) (e new : Emitted) where
  as_stmt : (f : Body → Body) → ((k : Body) → stmt_of s k ≡ f k) → Emits ns slots w f e new → Emits ns slots w (stmt_of s) e new
  as_stmt f h a = subst (λ g. Emits ns slots w g e new) (λ i k. sym (h k) i) a

  pub of_block : (b : Vec Stmt Global) (items : List Stmt) → s.kind ≡ kind.Block b → items ≡ b.items → ((at : Place) → Emits ns slots w (BlockStmt at (body_of items)) e new)
      → Emits ns slots w (stmt_of s) e new
  of_block b items h d a = as_stmt (BlockStmt s.at (body_of b.items)) (λ k. is_block s b k h) (subst (λ x. Emits ns slots w (BlockStmt s.at (body_of x)) e new) d (a s.at))

  pub of_if : (t : Expr) (b : Vec Stmt Global) (items : List Stmt) → s.kind ≡ kind.If t b None → items ≡ b.items → ((at : Place) → Emits ns slots w (IfStmt at (expr_of t) (body_of items)) e new)
      → Emits ns slots w (stmt_of s) e new
  of_if t b items h d a = as_stmt (IfStmt s.at (expr_of t) (body_of b.items)) (λ k. is_if s t b k h) (subst (λ x. Emits ns slots w (IfStmt s.at (expr_of t) (body_of x)) e new) d (a s.at))

  pub of_if_else : (t : Expr) (b c : Vec Stmt Global) (xs ys : List Stmt) → s.kind ≡ kind.If t b (Some c) → xs ≡ b.items → ys ≡ c.items
      → ((at : Place) → Emits ns slots w (IfElseStmt at (expr_of t) (body_of xs) (body_of ys)) e new) → Emits ns slots w (stmt_of s) e new
  of_if_else t b c xs ys h d g a =
      as_stmt (IfElseStmt s.at (expr_of t) (body_of b.items) (body_of c.items)) (λ k. is_if_else s t b c k h)
      (subst (λ y. Emits ns slots w (IfElseStmt s.at (expr_of t) (body_of b.items) (body_of y)) e new) g
      (subst (λ x. Emits ns slots w (IfElseStmt s.at (expr_of t) (body_of x) (body_of ys)) e new) d (a s.at)))

  pub of_while : (t : Expr) (b : Vec Stmt Global) (items : List Stmt) → s.kind ≡ kind.While t b → items ≡ b.items → ((at : Place) → Emits ns slots w (WhileStmt at (expr_of t) (body_of items)) e new)
      → Emits ns slots w (stmt_of s) e new
  of_while t b items h d a = as_stmt (WhileStmt s.at (expr_of t) (body_of b.items)) (λ k. is_while s t b k h) (subst (λ x. Emits ns slots w (WhileStmt s.at (expr_of t) (body_of x)) e new) d (a s.at))

  pub of_loop : (b : Vec Stmt Global) (items : List Stmt) → s.kind ≡ kind.Loop b → items ≡ b.items → ((at : Place) → Emits ns slots w (LoopStmt at (body_of items)) e new)
      → Emits ns slots w (stmt_of s) e new
  of_loop b items h d a = as_stmt (LoopStmt s.at (body_of b.items)) (λ k. is_loop s b k h) (subst (λ x. Emits ns slots w (LoopStmt s.at (body_of x)) e new) d (a s.at))

  pub of_for : (i : Option (Box Stmt Global)) (t : Option Expr) (p : Option (Box Stmt Global)) (b : Vec Stmt Global) (items : List Stmt) → s.kind ≡ kind.For i t p b → items ≡ b.items
      → ((at : Place) → Emits ns slots w (ForStmt at (simple_of i) (option_map expr_of t) (simple_of p) (body_of items)) e new) → Emits ns slots w (stmt_of s) e new
  of_for i t p b items h d a =
      as_stmt (ForStmt s.at (simple_of i) (option_map expr_of t) (simple_of p) (body_of b.items)) (λ k. is_for s i t p b k h)
      (subst (λ x. Emits ns slots w (ForStmt s.at (simple_of i) (option_map expr_of t) (simple_of p) (body_of x)) e new) d (a s.at))

  pub of_try : (b : Vec Stmt Global) (p : Place) (x : Ident) (c : Vec Stmt Global) (xs ys : List Stmt) → s.kind ≡ kind.Try b p x c → xs ≡ b.items → ys ≡ c.items
      → ((at catch : Place) → Emits ns slots w (TryStmt at (body_of xs) catch x (body_of ys)) e new) → Emits ns slots w (stmt_of s) e new
  of_try b p x c xs ys h d g a =
      as_stmt (TryStmt s.at (body_of b.items) p x (body_of c.items)) (λ k. is_try s b p x c k h)
      (subst (λ y. Emits ns slots w (TryStmt s.at (body_of b.items) p x (body_of y)) e new) g
      (subst (λ z. Emits ns slots w (TryStmt s.at (body_of z) p x (body_of ys)) e new) d (a s.at p)))

  pub of_choose : (bs : Vec When Global) (items : List When) → s.kind ≡ kind.Choose bs → items ≡ bs.items → ((at : Place) → Emits ns slots w (ChooseStmt at (branches_of items)) e new)
      → Emits ns slots w (stmt_of s) e new
  of_choose bs items h d a = as_stmt (ChooseStmt s.at (branches_of bs.items)) (λ k. is_choose s bs k h) (subst (λ x. Emits ns slots w (ChooseStmt s.at (branches_of x)) e new) d (a s.at))

  pub of_wait : (v : Waiting) → s.kind ≡ kind.Wait v → ((at : Place) → Emits ns slots w (WaitStmt at (waiting_of v)) e new) → Emits ns slots w (stmt_of s) e new
  of_wait v h a = as_stmt (WaitStmt s.at (waiting_of v)) (λ k. is_wait s v k h) (a s.at)

  pub of_break : s.kind ≡ kind.Break → e.is_open ≡ true → new ≡ shut_by w (GotoLast w.looped.out) e → Emits ns slots w (stmt_of s) e new
  of_break h o a = as_stmt (BreakStmt s.at) (λ k. is_break s k h) (break_emits ns slots w e new s.at o a)

  pub of_continue : s.kind ≡ kind.Continue → e.is_open ≡ true → new ≡ shut_by w w.looped.again e → Emits ns slots w (stmt_of s) e new
  of_continue h o a = as_stmt (ContinueStmt s.at) (λ k. is_continue s k h) (continue_emits ns slots w e new s.at o a)

  pub of_return : (x : Option Expr) → s.kind ≡ kind.Return x → e.is_open ≡ true
      → new ≡ closed w (ReturnLast (option_map (over slots e.scopes) (option_map expr_of x))) (acted [] e) → Emits ns slots w (stmt_of s) e new
  of_return x h o a = as_stmt (ReturnStmt s.at (option_map expr_of x)) (λ k. is_return s x k h) (return_emits ns slots w e new s.at (option_map expr_of x) o a)

  pub of_throw : (x : Option Expr) → s.kind ≡ kind.Throw x → e.is_open ≡ true → new ≡ closed w (ThrowLast (thrown ns slots e.scopes s.at (option_map expr_of x) w.caught)) (acted [] e)
      → Emits ns slots w (stmt_of s) e new
  of_throw x h o a = as_stmt (ThrowStmt s.at (option_map expr_of x)) (λ k. is_throw s x k h) (throw_emits ns slots w e new s.at (option_map expr_of x) o a)

  pub of_declare : (i : Into) (x : Option Expr) → s.kind ≡ kind.Declare i x → e.is_open ≡ true
      → new ≡ declaring (into_of i) (acted (declares ns slots e.scopes e.next (into_of i) (option_map expr_of x)) e) → Emits ns slots w (stmt_of s) e new
  of_declare i x h o a = as_stmt (DeclareStmt s.at (into_of i) (option_map expr_of x)) (λ k. is_declare s i x k h) (declare_emits ns slots w e new s.at (into_of i) (option_map expr_of x) o a)

  pub of_assign : (t : Target) (x : Expr) → s.kind ≡ kind.Assign t x → e.is_open ≡ true
      → new ≡ acted (assigned ns slots e.scopes (path_over slots e.scopes t.path.items) (expr_of x) ∷ []) e → Emits ns slots w (stmt_of s) e new
  of_assign t x h o a = as_stmt (AssignStmt s.at t.path.items (expr_of x)) (λ k. is_assign s t x k h) (assign_emits ns slots w e new s.at t.path.items (expr_of x) o a)

  pub of_modify : (t : Target) (d : Change) → s.kind ≡ kind.Modify t d → e.is_open ≡ true → new ≡ acted (changed ns slots e.scopes t.path.items (change t.path.items (change_of d))) e
      → Emits ns slots w (stmt_of s) e new
  of_modify t d h o a = as_stmt (ModifyStmt s.at t.path.items (change_of d)) (λ k. is_modify s t d k h) (modify_emits ns slots w e new s.at t.path.items (change_of d) o a)

  pub of_call : (t : Target) (es : Vec Expr Global) (items : List Expr) → s.kind ≡ kind.Call t es → items ≡ es.items → e.is_open ≡ true
      → new ≡ acted (ActInstr (act_over slots e.scopes t.path.items) (over_all slots e.scopes (exprs_of items)) ∷ []) e → Emits ns slots w (stmt_of s) e new
  of_call t es items h d o a =
      as_stmt (CallStmt s.at t.path.items (exprs_of es.items)) (λ k. is_call s t es k h)
      (subst (λ x. Emits ns slots w (CallStmt s.at t.path.items (exprs_of x)) e new) d (call_emits ns slots w e new s.at t.path.items (exprs_of items) o a))
