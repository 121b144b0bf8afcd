-- What is found in a statement of each kind, and then behind it.
use Rattle.std.proofs.Common.{◌≡◌, ℕ, ◌-◌, List, [], ◌∷◌, ◌++◌, length, refl, sym, ap, ap₂, ◌∙◌, append_assoc, append-nil, arith}
use Rattle.std.specs.Option.{option_map}
use Rattle.std.specs.declared.option.Option.{Option}
use Rattle.std.specs.declared.option.Option.TheVariants.{None, Some}
use Rattle.std.specs.declared.alloc.Global.{Global}
use Rattle.std.specs.declared.boxed.Box.{Box}
use Rattle.std.specs.declared.vec.Vec.{Vec}
use Rattle.flow_base.specs.declared.place.Place.{Place}
use Rattle.flow_tree.specs.declared.ty.Ident.{Ident}
use Rattle.flow_tree.specs.declared.expr.Expr.{Expr}
use Rattle.flow_tree.specs.declared.stmt.Into.{Into}
use Rattle.flow_tree.specs.declared.stmt.Target.{Target}
use Rattle.flow_tree.specs.declared.stmt.Change.{Change}
use Rattle.flow_tree.specs.declared.stmt.Waiting.{Waiting}
use Rattle.flow_tree.specs.declared.stmt.When.{When, out-When}
use Rattle.flow_tree.specs.declared.stmt.Stmt.{Stmt}
use Rattle.flow_tree.specs.declared.stmt.StmtKind.TheVariants as kind
use Rattle.flow_tree.specs.View.{expr_of, exprs_of}
use Rattle.flow_tree.specs.StmtView.{into_of, waiting_of, change_of, stmt_of, body_of, branch_of, branches_of, simple_of, else_of}
use Rattle.flow_tree.specs.Body.{Body, Branches, End, BlockStmt, IfStmt, IfElseStmt, WhileStmt, ForStmt, LoopStmt, BreakStmt, ContinueStmt, ReturnStmt, ThrowStmt, TryStmt, ChooseStmt, DeclareStmt, AssignStmt, ModifyStmt, CallStmt, WaitStmt}
use Rattle.flow_layout.proofs.StmtKinds.{is_break, is_continue, is_if, is_if_else, is_for, is_block, is_while, is_loop, is_return, is_throw, is_try, is_choose, is_declare, is_assign, is_modify, is_call, is_wait, when_is}
use Rattle.flow_staterule.specs.declared.scope.Point.{Point}
use Rattle.flow_staterule.specs.declared.scope.Use.{Use}
use Rattle.flow_staterule.specs.declared.scope.Variables.{Variables}
use Rattle.flow_staterule.specs.declared.uses.Here.{Here}
use Rattle.flow_staterule.specs.declared.uses.Finder.{Finder}
use Rattle.flow_staterule.specs.Ways.{ways, head}
use Rattle.flow_staterule.specs.Uses.{Variable, uses, branch_uses, choose_uses, else_uses, behind, declaring, declared, with_into, caught_as, thrown_uses, expr_uses, exprs_uses, maybe_uses, target_uses, base_uses, change_uses, left, beyond}
use Rattle.flow_staterule.specs.View.{in_force, declared_after, found, Finds, in_branches, known_behind, for_body, for_step, in_handler}

-- the uses behind a statement
abbrev rest_of : Here → List Variable → List Variable → Body → Body → List Use
rest_of h vs ws s k = uses (left h.looked.0 s) ws (beyond h.looked.0 vs h.point s) h.caught k

abbrev uses_at : Here → List Variable → Body → List Use
uses_at h vs b = uses h.looked.0 vs h.point h.caught b

after : (f g : Finder) (h : Here) (s : Stmt) (put : Body → Body) (ws : List Variable) (inner : List Use) → ((k : Body) → stmt_of s k ≡ put k) → g.uses.items ≡ f.uses.items ++ inner
    → in_force g.variables ≡ ws
    → ((k : Body) → inner ++ rest_of h (in_force f.variables) ws (put End) k ≡ uses_at h (in_force f.variables) (put k)) → declaring (in_force f.variables) (put End) ≡ ws → Finds f g h (stmt_of s)
after f g h s put ws inner is us vs rest declares = record {
  uses = λ k.
      ap (λ b. found g (known_behind (in_force f.variables) h b) k) (is End)
      ∙ ap₂ (λ l v. l ++ rest_of h (in_force f.variables) v (put End) k) us vs
      ∙ append_assoc f.uses.items inner (rest_of h (in_force f.variables) ws (put End) k)
      ∙ ap (λ l. f.uses.items ++ l) (rest k)
      ∙ ap (found f h) (sym (is k));
  variables = vs ∙ sym declares ∙ ap (declaring (in_force f.variables)) (sym (is End));
}

same_force : (v w : Variables) → w.list.items ≡ v.list.items → in_force w ≡ in_force v
same_force v w e = ap (declared_after []) e

-- what is added in two parts
two : (u v w a b : List Use) → v ≡ u ++ a → w ≡ v ++ b → w ≡ u ++ (a ++ b)
two u v w a b e f = f ∙ ap (λ l. l ++ b) e ∙ append_assoc u a b

-- a part that is found in a scope of its own, behind what was found before
scope_is : (f f' : Finder) (h : Here) (b : Body) (us : List Use) → us ≡ found f' h b → f'.variables.list.items ≡ f.variables.list.items → us ≡ f'.uses.items ++ uses_at h (in_force f.variables) b
scope_is f f' h b us e vs = e ∙ ap (λ l. f'.uses.items ++ uses_at h (declared_after [] l) b) vs

pub after_block : (f g : Finder) (h : Here) (s : Stmt) (b : Vec Stmt Global) (items : List Stmt) → s.kind ≡ kind.Block b → items ≡ b.items → g.uses.items ≡ found f h (body_of items)
    → g.variables.list.items ≡ f.variables.list.items → Finds f g h (stmt_of s)
after_block f g h s b items e d us vs =
    after f g h s (BlockStmt s.at (body_of b.items)) (in_force f.variables) (uses_at h (in_force f.variables) (body_of b.items)) (λ k. is_block s b k e)
    (us ∙ ap (λ l. found f h (body_of l)) d) (same_force f.variables g.variables vs) (λ k. refl) refl

pub after_if : (f f1 f2 g : Finder) (h : Here) (s : Stmt) (e : Expr) (b : Vec Stmt Global) (o : Option (Vec Stmt Global)) (items : List Stmt) (i : Here) → s.kind ≡ kind.If e b o → items ≡ b.items
    → f1.uses.items ≡ f.uses.items ++ expr_uses (in_force f.variables) h.point (expr_of e) → f1.variables.list.items ≡ f.variables.list.items
    → f2.uses.items ≡ found f1 h (body_of items) → f2.variables.list.items ≡ f1.variables.list.items
    → i ≡ record h { looked = record { 0 = left h.looked.0 (body_of items) } }
    → g.uses.items ≡ f2.uses.items ++ else_uses i.looked.0 (in_force f2.variables) i.point i.caught (else_of o) → g.variables.list.items ≡ f2.variables.list.items → Finds f g h (stmt_of s)
after_if f f1 f2 g h s e b None items i is d us1 vs1 us2 vs2 ie us3 vs3 =
    let vs = in_force f.variables in
    after f g h s (IfStmt s.at (expr_of e) (body_of b.items)) vs (expr_uses vs h.point (expr_of e) ++ uses_at h vs (body_of b.items)) (λ k. is_if s e b k is)
    (us3 ∙ append-nil f2.uses.items ∙ two f.uses.items f1.uses.items f2.uses.items _ _ us1 (scope_is f f1 h (body_of b.items) f2.uses.items (us2 ∙ ap (λ l. found f1 h (body_of l)) d) vs1))
    (same_force f.variables g.variables (vs3 ∙ vs2 ∙ vs1)) (λ k. refl) refl
after_if f f1 f2 g h s e b (Some o) items i is d us1 vs1 us2 vs2 ie us3 vs3 =
    let vs = in_force f.variables in
    after f g h s (IfElseStmt s.at (expr_of e) (body_of b.items) (body_of o.items)) vs
    (expr_uses vs h.point (expr_of e) ++ uses_at h vs (body_of b.items) ++ uses (left h.looked.0 (body_of b.items)) vs h.point h.caught (body_of o.items)) (λ k. is_if_else s e b o k is)
    (two f.uses.items f2.uses.items g.uses.items _ _
    (two f.uses.items f1.uses.items f2.uses.items _ _ us1 (scope_is f f1 h (body_of b.items) f2.uses.items (us2 ∙ ap (λ l. found f1 h (body_of l)) d) vs1))
    (us3 ∙ ap (λ x. f2.uses.items ++ uses x.looked.0 (in_force f2.variables) x.point x.caught (body_of o.items)) ie
    ∙ ap₂ (λ l v. f2.uses.items ++ uses (left h.looked.0 (body_of l)) (declared_after [] v) h.point h.caught (body_of o.items)) d (vs2 ∙ vs1)))
    (same_force f.variables g.variables (vs3 ∙ vs2 ∙ vs1)) (λ k. refl) refl

-- the rounds of a loop
abbrev round_at : Here → List Variable → Body → Here
round_at h vs b = record h { point = behind (length vs) h.point (head (ways h.looked.0 b)) }

pub after_while : (f f1 g : Finder) (h r : Here) (s : Stmt) (e : Expr) (b : Vec Stmt Global) (items : List Stmt) (n : ℕ) → s.kind ≡ kind.While e b → items ≡ b.items → n ≡ length (in_force f.variables)
    → r ≡ record h { point = behind n h.point (head (ways h.looked.0 (body_of items))) }
    → f1.uses.items ≡ f.uses.items ++ expr_uses (in_force f.variables) r.point (expr_of e) → f1.variables.list.items ≡ f.variables.list.items
    → g.uses.items ≡ found f1 r (body_of items) → g.variables.list.items ≡ f1.variables.list.items → Finds f g h (stmt_of s)
after_while f f1 g h r s e b items n is d ne re us1 vs1 us2 vs2 =
    let vs = in_force f.variables in
    let x = round_at h vs (body_of b.items) in
    let rx : r ≡ round_at h vs (body_of b.items) = re ∙ ap₂ (λ m l. record h { point = behind m h.point (head (ways h.looked.0 (body_of l))) }) ne d in
    after f g h s (WhileStmt s.at (expr_of e) (body_of b.items)) vs (expr_uses vs x.point (expr_of e) ++ uses_at x vs (body_of b.items)) (λ k. is_while s e b k is)
    (two f.uses.items f1.uses.items g.uses.items _ _ (us1 ∙ ap (λ y. f.uses.items ++ expr_uses vs y.point (expr_of e)) rx)
    (scope_is f f1 x (body_of b.items) g.uses.items (us2 ∙ ap₂ (λ y l. found f1 y (body_of l)) rx d) vs1))
    (same_force f.variables g.variables (vs2 ∙ vs1)) (λ k. refl) refl

pub after_loop : (f g : Finder) (h r : Here) (s : Stmt) (b : Vec Stmt Global) (items : List Stmt) (n : ℕ) → s.kind ≡ kind.Loop b → items ≡ b.items → n ≡ length (in_force f.variables)
    → r ≡ record h { point = behind n h.point (head (ways h.looked.0 (body_of items))) }
    → g.uses.items ≡ found f r (body_of items) → g.variables.list.items ≡ f.variables.list.items → Finds f g h (stmt_of s)
after_loop f g h r s b items n is d ne re us vs' =
    let vs = in_force f.variables in
    let x = round_at h vs (body_of b.items) in
    let rx : r ≡ round_at h vs (body_of b.items) = re ∙ ap₂ (λ m l. record h { point = behind m h.point (head (ways h.looked.0 (body_of l))) }) ne d in
    after f g h s (LoopStmt s.at (body_of b.items)) vs (uses_at x vs (body_of b.items)) (λ k. is_loop s b k is)
    (us ∙ ap₂ (λ y l. found f y (body_of l)) rx d) (same_force f.variables g.variables vs') (λ k. refl) refl

-- statements without a body leave all waits to be looked for
none_left : (n : ℕ) → n - 0 ≡ n
none_left n = omega arith

simple : (h : Here) (vs ws : List Variable) (p : Point) (k : Body) → uses (h.looked.0 - 0) ws p h.caught k ≡ uses h.looked.0 ws p h.caught k
simple h vs ws p k = ap (λ n. uses n ws p h.caught k) (none_left h.looked.0)

pub after_break : (f : Finder) (h : Here) (s : Stmt) → s.kind ≡ kind.Break → Finds f f h (stmt_of s)
after_break f h s is = after f f h s (BreakStmt s.at) (in_force f.variables) [] (λ k. is_break s k is) (sym (append-nil f.uses.items)) refl
    (λ k. simple h (in_force f.variables) (in_force f.variables) _ k) refl

pub after_continue : (f : Finder) (h : Here) (s : Stmt) → s.kind ≡ kind.Continue → Finds f f h (stmt_of s)
after_continue f h s is = after f f h s (ContinueStmt s.at) (in_force f.variables) [] (λ k. is_continue s k is) (sym (append-nil f.uses.items)) refl
    (λ k. simple h (in_force f.variables) (in_force f.variables) _ k) refl

pub after_return : (f g : Finder) (h : Here) (s : Stmt) (e : Option Expr) → s.kind ≡ kind.Return e
    → g.uses.items ≡ f.uses.items ++ maybe_uses (in_force f.variables) h.point (option_map expr_of e)
    → g.variables.list.items ≡ f.variables.list.items → Finds f g h (stmt_of s)
after_return f g h s e is us vs =
    let inner = maybe_uses (in_force f.variables) h.point (option_map expr_of e) in
    after f g h s (ReturnStmt s.at (option_map expr_of e)) (in_force f.variables) inner (λ k. is_return s e k is) us (same_force f.variables g.variables vs)
    (λ k. ap (λ l. inner ++ l) (simple h (in_force f.variables) (in_force f.variables) _ k)) refl

pub after_throw : (f g : Finder) (h : Here) (s : Stmt) (e : Option Expr) → s.kind ≡ kind.Throw e
    → g.uses.items ≡ f.uses.items ++ thrown_uses h.point h.caught s.at (option_map expr_of e) (in_force f.variables)
    → g.variables.list.items ≡ f.variables.list.items → Finds f g h (stmt_of s)
after_throw f g h s e is us vs =
    let inner = thrown_uses h.point h.caught s.at (option_map expr_of e) (in_force f.variables) in
    after f g h s (ThrowStmt s.at (option_map expr_of e)) (in_force f.variables) inner (λ k. is_throw s e k is) us (same_force f.variables g.variables vs)
    (λ k. ap (λ l. inner ++ l) (simple h (in_force f.variables) (in_force f.variables) _ k)) refl

pub after_declare : (f f1 g : Finder) (h : Here) (s : Stmt) (i : Into) (e : Option Expr) → s.kind ≡ kind.Declare i e
    → f1.uses.items ≡ f.uses.items ++ maybe_uses (in_force f.variables) h.point (option_map expr_of e)
    → f1.variables.list.items ≡ f.variables.list.items → g.uses.items ≡ f1.uses.items → in_force g.variables ≡ declared (into_of i) ∷ in_force f1.variables → Finds f g h (stmt_of s)
after_declare f f1 g h s i e is us vs us2 vs2 =
    let inner = maybe_uses (in_force f.variables) h.point (option_map expr_of e) in
    let ws = declared (into_of i) ∷ in_force f.variables in
    after f g h s (DeclareStmt s.at (into_of i) (option_map expr_of e)) ws inner (λ k. is_declare s i e k is) (us2 ∙ us) (vs2 ∙ ap (λ l. declared (into_of i) ∷ declared_after [] l) vs)
    (λ k. ap (λ l. inner ++ l) (simple h (in_force f.variables) ws _ k)) refl

pub after_assign : (f f1 g : Finder) (h : Here) (s : Stmt) (t : Target) (e : Expr) → s.kind ≡ kind.Assign t e → f1.uses.items ≡ f.uses.items ++ target_uses (in_force f.variables) h.point t.path.items
    → f1.variables.list.items ≡ f.variables.list.items → g.uses.items ≡ f1.uses.items ++ expr_uses (in_force f1.variables) h.point (expr_of e) → g.variables.list.items ≡ f1.variables.list.items
    → Finds f g h (stmt_of s)
after_assign f f1 g h s t e is us vs us2 vs2 =
    let force = in_force f.variables in
    let inner = target_uses force h.point t.path.items ++ expr_uses force h.point (expr_of e) in
    after f g h s (AssignStmt s.at t.path.items (expr_of e)) force inner (λ k. is_assign s t e k is)
    (two f.uses.items f1.uses.items g.uses.items _ _ us (us2 ∙ ap (λ l. f1.uses.items ++ expr_uses (declared_after [] l) h.point (expr_of e)) vs)) (same_force f.variables g.variables (vs2 ∙ vs))
    (λ k. ap (λ l. inner ++ l) (simple h force force _ k)) refl

pub after_modify : (f f1 g : Finder) (h : Here) (s : Stmt) (t : Target) (d : Change) → s.kind ≡ kind.Modify t d
    → f1.uses.items ≡ f.uses.items ++ target_uses (in_force f.variables) h.point t.path.items
    → f1.variables.list.items ≡ f.variables.list.items → g.uses.items ≡ f1.uses.items ++ change_uses (in_force f1.variables) h.point (change_of d) → g.variables.list.items ≡ f1.variables.list.items
    → Finds f g h (stmt_of s)
after_modify f f1 g h s t d is us vs us2 vs2 =
    let force = in_force f.variables in
    let inner = target_uses force h.point t.path.items ++ change_uses force h.point (change_of d) in
    after f g h s (ModifyStmt s.at t.path.items (change_of d)) force inner (λ k. is_modify s t d k is)
    (two f.uses.items f1.uses.items g.uses.items _ _ us (us2 ∙ ap (λ l. f1.uses.items ++ change_uses (declared_after [] l) h.point (change_of d)) vs)) (same_force f.variables g.variables (vs2 ∙ vs))
    (λ k. ap (λ l. inner ++ l) (simple h force force _ k)) refl

pub after_call : (f f1 g : Finder) (h : Here) (s : Stmt) (t : Target) (es : Vec Expr Global) (items : List Expr) → s.kind ≡ kind.Call t es → items ≡ es.items
    → f1.uses.items ≡ f.uses.items ++ base_uses (in_force f.variables) h.point t.path.items
    → f1.variables.list.items ≡ f.variables.list.items → g.uses.items ≡ f1.uses.items ++ exprs_uses (in_force f1.variables) h.point (exprs_of items) → g.variables.list.items ≡ f1.variables.list.items
    → Finds f g h (stmt_of s)
after_call f f1 g h s t es items is d us vs us2 vs2 =
    let force = in_force f.variables in
    let inner = base_uses force h.point t.path.items ++ exprs_uses force h.point (exprs_of es.items) in
    after f g h s (CallStmt s.at t.path.items (exprs_of es.items)) force inner (λ k. is_call s t es k is)
    (two f.uses.items f1.uses.items g.uses.items _ _ us (us2 ∙ ap₂ (λ l i. f1.uses.items ++ exprs_uses (declared_after [] l) h.point (exprs_of i)) vs d))
    (same_force f.variables g.variables (vs2 ∙ vs))
    (λ k. ap (λ l. inner ++ l) (simple h force force _ k)) refl

pub after_wait : (f f1 g : Finder) (h : Here) (s : Stmt) (w : Waiting) → s.kind ≡ kind.Wait w → f1.uses.items ≡ f.uses.items ++ expr_uses (in_force f.variables) h.point (expr_of w.operand)
    → f1.variables.list.items ≡ f.variables.list.items
    → g.uses.items ≡ f1.uses.items → in_force g.variables ≡ with_into (in_force f1.variables) (waiting_of w).into → Finds f g h (stmt_of s)
after_wait f f1 g h s w is us vs us2 vs2 =
    after f g h s (WaitStmt s.at (waiting_of w)) (with_into (in_force f.variables) (waiting_of w).into) (expr_uses (in_force f.variables) h.point (expr_of w.operand)) (λ k. is_wait s w k is)
    (us2 ∙ us)
    (vs2 ∙ ap (λ l. with_into (declared_after [] l) (waiting_of w).into) vs) (λ k. refl) refl

pub after_choose : (f g : Finder) (h : Here) (s : Stmt) (bs : Vec When Global) (items : List When) → s.kind ≡ kind.Choose bs → items ≡ bs.items
    → g.uses.items ≡ f.uses.items ++ choose_uses h.looked.0 (in_force f.variables) h.point h.caught (branches_of items) → g.variables.list.items ≡ f.variables.list.items → Finds f g h (stmt_of s)
after_choose f g h s bs items is d us vs =
    let inner = choose_uses h.looked.0 (in_force f.variables) h.point h.caught (branches_of bs.items) in
    after f g h s (ChooseStmt s.at (branches_of bs.items)) (in_force f.variables) inner (λ k. is_choose s bs k is)
    (us ∙ ap (λ l. f.uses.items ++ choose_uses h.looked.0 (in_force f.variables) h.point h.caught (branches_of l)) d) (same_force f.variables g.variables vs) (λ k. refl) refl

pub after_try : (f f1 g : Finder) (h i : Here) (s : Stmt) (b : Vec Stmt Global) (q : Place) (x : Ident) (o : Vec Stmt Global) (items hands : List Stmt) → s.kind ≡ kind.Try b q x o → items ≡ b.items
    → hands ≡ o.items
    → f1.uses.items ≡ found f h (body_of items) → f1.variables.list.items ≡ f.variables.list.items → i ≡ in_handler (length (in_force f1.variables)) h (body_of items) x
    → g.uses.items ≡ f1.uses.items ++ uses i.looked.0 (caught_as x ∷ in_force f1.variables) i.point i.caught (body_of hands) → g.variables.list.items ≡ f1.variables.list.items
    → Finds f g h (stmt_of s)
after_try f f1 g h i s b q x o items hands is d c us vs ie us2 vs2 =
    let force = in_force f.variables in
    let j = in_handler (length force) h (body_of b.items) x in
    let ij : i ≡ in_handler (length (in_force f.variables)) h (body_of b.items) x = ie ∙ ap₂ (λ l v. in_handler (length (declared_after [] v)) h (body_of l) x) d vs in
    after f g h s (TryStmt s.at (body_of b.items) q x (body_of o.items)) force (uses_at h force (body_of b.items) ++ uses_at j (caught_as x ∷ force) (body_of o.items)) (λ k. is_try s b q x o k is)
    (two f.uses.items f1.uses.items g.uses.items _ _ (us ∙ ap (λ l. found f h (body_of l)) d)
    (us2 ∙ ap (λ y. f1.uses.items ++ uses y.looked.0 (caught_as x ∷ in_force f1.variables) y.point y.caught (body_of hands)) ij
    ∙ ap₂ (λ l v. f1.uses.items ++ uses_at j (caught_as x ∷ declared_after [] v) (body_of l)) c vs))
    (same_force f.variables g.variables (vs2 ∙ vs)) (λ k. refl) refl

-- a part that is found with other variables in force
found_is : (f : Finder) (h x : Here) (ws : List Variable) (b : Body) (us : List Use) → us ≡ found f h b → h ≡ x → in_force f.variables ≡ ws → us ≡ f.uses.items ++ uses_at x ws b
found_is f h x ws b us e hx vs = e ∙ ap₂ (λ y v. f.uses.items ++ uses_at y v b) hx vs

pub after_for : (f f1 f2 f3 f4 g : Finder) (h i r t : Here) (s : Stmt) (init : Option (Box Stmt Global)) (e : Option Expr) (step : Option (Box Stmt Global)) (b : Vec Stmt Global) (items : List Stmt)
    → s.kind ≡ kind.For init e step b → items ≡ b.items
    → f1.uses.items ≡ found f h (simple_of init) → i ≡ known_behind (in_force f.variables) h (simple_of init) → in_force f1.variables ≡ declaring (in_force f.variables) (simple_of init)
    → r ≡ for_body (length (in_force f1.variables)) i (simple_of step) (body_of items) → t ≡ for_step (length (in_force f1.variables)) i (simple_of step) (body_of items)
    → f2.uses.items ≡ f1.uses.items ++ maybe_uses (in_force f1.variables) r.point (option_map expr_of e) → f2.variables.list.items ≡ f1.variables.list.items
    → f3.uses.items ≡ found f2 t (simple_of step) → f3.variables.list.items ≡ f2.variables.list.items
    → f4.uses.items ≡ found f3 r (body_of items) → g.uses.items ≡ f4.uses.items → in_force g.variables ≡ in_force f.variables → Finds f g h (stmt_of s)
after_for f f1 f2 f3 f4 g h i r t s init e step b items is d us1 ie vs1 re te us2 vs2 us3 vs3 us4 us5 vs5 =
    let vs = in_force f.variables in
    let ws = declaring vs (simple_of init) in
    let begun = known_behind vs h (simple_of init) in
    let x = for_body (length ws) begun (simple_of step) (body_of b.items) in
    let y = for_step (length ws) begun (simple_of step) (body_of b.items) in
    let rx : r ≡ for_body (length ws) begun (simple_of step) (body_of b.items) =
    re ∙ ap (λ v. for_body (length v) i (simple_of step) (body_of items)) vs1 ∙ ap₂ (λ j l. for_body (length ws) j (simple_of step) (body_of l)) ie d in
    let ty : t ≡ for_step (length ws) begun (simple_of step) (body_of b.items) =
    te ∙ ap (λ v. for_step (length v) i (simple_of step) (body_of items)) vs1 ∙ ap₂ (λ j l. for_step (length ws) j (simple_of step) (body_of l)) ie d in
    let ws2 : in_force f2.variables ≡ declaring vs (simple_of init) = same_force f1.variables f2.variables vs2 ∙ vs1 in
    let ws3 : in_force f3.variables ≡ declaring vs (simple_of init) = same_force f2.variables f3.variables vs3 ∙ ws2 in
    after f g h s (ForStmt s.at (simple_of init) (option_map expr_of e) (simple_of step) (body_of b.items)) vs
    (uses_at h vs (simple_of init) ++ maybe_uses ws x.point (option_map expr_of e) ++ uses_at y ws (simple_of step) ++ uses_at x ws (body_of b.items)) (λ k. is_for s init e step b k is)
    (us5 ∙ two f.uses.items f3.uses.items f4.uses.items _ _
    (two f.uses.items f2.uses.items f3.uses.items _ _
    (two f.uses.items f1.uses.items f2.uses.items _ _ us1 (us2 ∙ ap₂ (λ v j. f1.uses.items ++ maybe_uses v j.point (option_map expr_of e)) vs1 rx))
    (found_is f2 t y ws (simple_of step) f3.uses.items us3 ty ws2))
    (found_is f3 r x ws (body_of b.items) f4.uses.items (us4 ∙ ap (λ l. found f3 r (body_of l)) d) rx ws3))
    vs5 (λ k. refl) refl

-- a branch before others
pub after_branch : (f f1 f2 f3 g : Finder) (p : Point) (h j : Here) (w : When) (items : List Stmt) → items ≡ (out-When w).body.items
    → f1.uses.items ≡ f.uses.items ++ expr_uses (in_force f.variables) p (expr_of (out-When w).waiting.operand) → f1.variables.list.items ≡ f.variables.list.items
    → f2.uses.items ≡ f1.uses.items → in_force f2.variables ≡ with_into (in_force f1.variables) (waiting_of (out-When w).waiting).into
    → f3.uses.items ≡ found f2 h (body_of items) → g.uses.items ≡ f3.uses.items → g.variables.list.items ≡ f.variables.list.items
    → j ≡ record h { looked = record { 0 = left h.looked.0 (body_of items) } } → (bs : Branches) → in_branches g p j bs ≡ in_branches f p h (branch_of w bs)
after_branch f f1 f2 f3 g p h j w items d us1 vs1 us2 vs2 us3 us4 vs4 je bs =
    let v = (out-When w).waiting in
    let vs = in_force f.variables in
    let b = body_of (out-When w).body.items in
    let ws = with_into (in_force f.variables) (waiting_of (out-When w).waiting).into in
    let rest = branch_uses (left h.looked.0 (body_of (out-When w).body.items)) (in_force f.variables) p h.point h.caught bs in
    let first = expr_uses (in_force f.variables) p (expr_of (out-When w).waiting.operand) ++ uses_at h ws (body_of (out-When w).body.items) in
    let us : g.uses.items ≡ f.uses.items ++ first =
    two f.uses.items f1.uses.items g.uses.items _ _ us1
    (us4 ∙ us3 ∙ ap₂ (λ l u. l ++ uses_at h u (body_of items)) us2 (vs2 ∙ ap (λ l. with_into (declared_after [] l) (waiting_of (out-When w).waiting).into) vs1)
    ∙ ap (λ l. f1.uses.items ++ uses_at h ws (body_of l)) d) in
    let jx : j ≡ record h { looked = record { 0 = left h.looked.0 (body_of (out-When w).body.items) } } = je ∙ ap (λ l. record h { looked = record { 0 = left h.looked.0 (body_of l) } }) d in
    ap (λ y. g.uses.items ++ branch_uses y.looked.0 (in_force g.variables) p y.point y.caught bs) jx
    ∙ ap₂ (λ l u. l ++ branch_uses (left h.looked.0 (body_of (out-When w).body.items)) (declared_after [] u) p h.point h.caught bs) us vs4
    ∙ append_assoc f.uses.items first rest
    ∙ ap (λ y. in_branches f p h (y bs)) (sym (when_is w))
