-- What is warned of is found one after the other.
use Rattle.std.proofs.Common.{◌≡◌, ℕ, ◌+◌, ◌<◌, ◌≤◌, List, [], ◌++◌, map, length, drop, get_or, refl, sym, ap, ◌∙◌, append_assoc, append-nil}
use Rattle.std.specs.Option.{option_map}
use Rattle.std.specs.declared.option.Option.{Option}
use Rattle.std.specs.declared.alloc.Global.{Global}
use Rattle.std.specs.declared.boxed.Box.{Box}
use Rattle.std.specs.declared.vec.Vec.{Vec}
use Rattle.std.proofs.lemmas.List.{drop_more, drop_all}
use Rattle.flow_base.specs.declared.place.Place.{Place}
use Rattle.flow_tree.specs.declared.ty.Ident.{Ident}
use Rattle.flow_tree.specs.declared.expr.Expr.{Expr}
use Rattle.flow_tree.specs.declared.stmt.Into.{Into}
use Rattle.flow_tree.specs.declared.stmt.Waiting.{Waiting}
use Rattle.flow_tree.specs.declared.stmt.When.{When}
use Rattle.flow_tree.specs.declared.stmt.Stmt.{Stmt}
use Rattle.flow_tree.specs.declared.stmt.StmtKind.TheVariants as kind
use Rattle.flow_tree.specs.View.{expr_of}
use Rattle.flow_tree.specs.StmtView.{into_of, waiting_of, stmt_of, body_of, branch_of, branches_of, simple_of}
use Rattle.flow_tree.specs.Body.{Body, Branches, End, ForStmt, LoopStmt, TryStmt, ChooseStmt, DeclareStmt, WaitStmt}
use Rattle.flow_layout.proofs.StmtKinds.{is_for, is_loop, is_try, is_choose, is_declare, is_wait}
use Rattle.flow_warning.specs.declared.walks.Walks.{Walks}
use Rattle.flow_warning.specs.declared.warning.Warning.{Warning}
use Rattle.flow_tree.specs.declared.decl.Decl.{Decl}
use Rattle.flow_tree.specs.DeclView.{decl_of}
use Rattle.flow_tree.specs.Tree.{ExprTree}
use Rattle.flow_warning.specs.Walks.{alone, in_turn, round, tested}
use Rattle.flow_warning.specs.Warnings.{lost_of, lost_of_wait, lost_of_init, endless, endless_for, warnings, branch_warnings, decl_warnings, program_warnings}
use Rattle.flow_warning.proofs.Joins.{in_turn_empty}

added : (s : Stmt) (put : Body → Body) (old new inner : List Warning) (k : Body) → stmt_of s k ≡ put k → inner ++ warnings k ≡ warnings (put k) → new ≡ old ++ inner
    → new ++ warnings k ≡ old ++ warnings (stmt_of s k)
added s put old new inner k is whole eq =
    ap (λ l. l ++ warnings k) eq ∙ append_assoc old inner (warnings k) ∙ ap (λ l. old ++ l) whole ∙ ap (λ b. old ++ warnings b) (sym is)

both : (old mid new a b : List Warning) → mid ≡ old ++ a → new ≡ mid ++ b → new ≡ old ++ (a ++ b)
both old mid new a b e f = f ∙ ap (λ l. l ++ b) e ∙ append_assoc old a b

-- the rounds of a `for`
abbrev rounds : Body → Body → Walks
rounds b t = in_turn (round (alone [] b)) (alone [] t)

pub found_for : (s : Stmt) (i : Option (Box Stmt Global)) (e : Option Expr) (t : Option (Box Stmt Global)) (b : Vec Stmt Global) (bs ds : List Stmt) (k : Body)
    (old mid end new : List Warning) (w : Walks) → s.kind ≡ kind.For i e t b → bs ≡ b.items → ds ≡ b.items
    → mid ≡ old ++ lost_of_init (simple_of i) (ForStmt s.at End (option_map expr_of e) (simple_of t) (body_of bs) End)
    → w ≡ rounds (body_of b.items) (simple_of t) → end ≡ mid ++ endless_for s.at (option_map expr_of e) w → new ≡ end ++ warnings (body_of ds)
    → new ++ warnings k ≡ old ++ warnings (stmt_of s k)
found_for s i e t b bs ds k old mid end new w is d f p we q r =
    let first = lost_of_init (simple_of i) (ForStmt s.at End (option_map expr_of e) (simple_of t) (body_of b.items) End) in
    let second = endless_for s.at (option_map expr_of e) (rounds (body_of b.items) (simple_of t)) in
    let third = warnings (body_of b.items) in
    added s (ForStmt s.at (simple_of i) (option_map expr_of e) (simple_of t) (body_of b.items)) old new (first ++ second ++ third) k (is_for s i e t b k is) refl
    (both old end new (first ++ second) third
    (both old mid end first second
    (p ∙ ap (λ l. old ++ lost_of_init (simple_of i) (ForStmt s.at End (option_map expr_of e) (simple_of t) (body_of l) End)) d)
    (q ∙ ap (λ y. mid ++ endless_for s.at (option_map expr_of e) y) we))
    (r ∙ ap (λ l. end ++ warnings (body_of l)) f))

pub found_loop : (s : Stmt) (b : Vec Stmt Global) (ds : List Stmt) (k : Body) (old mid new : List Warning) (w : Walks) → s.kind ≡ kind.Loop b → ds ≡ b.items
    → w ≡ alone [] (body_of b.items) → mid ≡ old ++ endless s.at w → new ≡ mid ++ warnings (body_of ds) → new ++ warnings k ≡ old ++ warnings (stmt_of s k)
found_loop s b ds k old mid new w is f we q r =
    let first = endless s.at (alone [] (body_of b.items)) in
    let second = warnings (body_of b.items) in
    added s (LoopStmt s.at (body_of b.items)) old new (first ++ second) k (is_loop s b k is) refl
    (both old mid new first second (q ∙ ap (λ y. old ++ endless s.at y) we) (r ∙ ap (λ l. mid ++ warnings (body_of l)) f))

pub found_try : (s : Stmt) (b : Vec Stmt Global) (p : Place) (x : Ident) (h : Vec Stmt Global) (bs hs : List Stmt) (k : Body) (old mid new : List Warning) → s.kind ≡ kind.Try b p x h
    → bs ≡ b.items → hs ≡ h.items → mid ≡ old ++ warnings (body_of bs) → new ≡ mid ++ warnings (body_of hs) → new ++ warnings k ≡ old ++ warnings (stmt_of s k)
found_try s b p x h bs hs k old mid new is d f q r =
    let first = warnings (body_of b.items) in
    let second = warnings (body_of h.items) in
    added s (TryStmt s.at (body_of b.items) p x (body_of h.items)) old new (first ++ second) k (is_try s b p x h k is) refl
    (both old mid new first second (q ∙ ap (λ l. old ++ warnings (body_of l)) d) (r ∙ ap (λ l. mid ++ warnings (body_of l)) f))

pub found_choose : (s : Stmt) (bs : Vec When Global) (items : List When) (k : Body) (old new : List Warning) → s.kind ≡ kind.Choose bs → items ≡ bs.items
    → new ≡ old ++ branch_warnings (branches_of items) → new ++ warnings k ≡ old ++ warnings (stmt_of s k)
found_choose s bs items k old new is d q =
    added s (ChooseStmt s.at (branches_of bs.items)) old new (branch_warnings (branches_of bs.items)) k (is_choose s bs k is) refl (q ∙ ap (λ l. old ++ branch_warnings (branches_of l)) d)

pub found_declare : (s : Stmt) (i : Into) (e : Option Expr) (k : Body) (old new : List Warning) → s.kind ≡ kind.Declare i e → new ≡ old ++ lost_of (into_of i) k
    → new ++ warnings k ≡ old ++ warnings (stmt_of s k)
found_declare s i e k old new is q = added s (DeclareStmt s.at (into_of i) (option_map expr_of e)) old new (lost_of (into_of i) k) k (is_declare s i e k is) refl q

pub found_wait : (s : Stmt) (w : Waiting) (k : Body) (old new : List Warning) → s.kind ≡ kind.Wait w → new ≡ old ++ lost_of_wait (option_map into_of w.into) k
    → new ++ warnings k ≡ old ++ warnings (stmt_of s k)
found_wait s w k old new is q = added s (WaitStmt s.at (waiting_of w)) old new (lost_of_wait (option_map into_of w.into) k) k (is_wait s w k is) refl q

-- statements and branches one after another
pub body_next : (ss : List Stmt) (i : ℕ) (s : Stmt) (rest : List Stmt) (old new whole : List Warning) → i < length ss → s ≡ get_or ss i s → rest ≡ drop (i + 1) ss
    → new ++ warnings (body_of rest) ≡ old ++ warnings (stmt_of s (body_of rest)) → old ++ warnings (body_of (drop i ss)) ≡ whole
    → new ++ warnings (body_of (drop (i + 1) ss)) ≡ whole
body_next ss i s rest old new whole lt got is step inv =
    ap (λ l. new ++ warnings (body_of l)) (sym is) ∙ step ∙ ap (λ l. old ++ warnings (stmt_of s (body_of l))) is
    ∙ ap (λ x. old ++ warnings (stmt_of x (body_of (drop (i + 1) ss)))) got ∙ ap (λ l. old ++ warnings (body_of l)) (sym (drop_more ss i s lt)) ∙ inv

pub body_end : (ss : List Stmt) (i : ℕ) (old whole : List Warning) → length ss ≤ i → old ++ warnings (body_of (drop i ss)) ≡ whole → old ≡ whole
body_end ss i old whole le inv = sym (append-nil old) ∙ ap (λ l. old ++ warnings (body_of l)) (sym (drop_all i ss le)) ∙ inv

pub branches_next : (ws : List When) (i : ℕ) (w : When) (old new whole : List Warning) → i < length ws → w ≡ get_or ws i w
    → ((bs : Branches) → new ++ branch_warnings bs ≡ old ++ branch_warnings (branch_of w bs)) → old ++ branch_warnings (branches_of (drop i ws)) ≡ whole
    → new ++ branch_warnings (branches_of (drop (i + 1) ws)) ≡ whole
branches_next ws i w old new whole lt got is inv =
    let k = branches_of (drop (i + 1) ws) in
    is k ∙ ap (λ x. old ++ branch_warnings (branch_of x k)) got ∙ ap (λ l. old ++ branch_warnings (branches_of l)) (sym (drop_more ws i w lt)) ∙ inv

pub branches_end : (ws : List When) (i : ℕ) (old whole : List Warning) → length ws ≤ i → old ++ branch_warnings (branches_of (drop i ws)) ≡ whole → old ≡ whole
branches_end ws i old whole le inv = sym (append-nil old) ∙ ap (λ l. old ++ branch_warnings (branches_of l)) (sym (drop_all i ws le)) ∙ inv

-- declarations one after another
decls_split : (ds : List Decl) (i : ℕ) (d : Decl) → i < length ds → d ≡ get_or ds i d
    → program_warnings (map decl_of (drop i ds)) ≡ decl_warnings (decl_of d) ++ program_warnings (map decl_of (drop (i + 1) ds))
decls_split ds i d lt got =
    ap (λ l. program_warnings (map decl_of l)) (drop_more ds i d lt)
    ∙ sym (ap (λ y. decl_warnings (decl_of y) ++ program_warnings (map decl_of (drop (i + 1) ds))) got)

pub decls_next : (ds : List Decl) (i : ℕ) (d : Decl) (old new whole : List Warning) → i < length ds → d ≡ get_or ds i d → new ≡ old ++ decl_warnings (decl_of d)
    → old ++ program_warnings (map decl_of (drop i ds)) ≡ whole → new ++ program_warnings (map decl_of (drop (i + 1) ds)) ≡ whole
decls_next ds i d old new whole lt got is inv =
    let rest = program_warnings (map decl_of (drop (i + 1) ds)) in
    ap (λ l. l ++ rest) is ∙ append_assoc old (decl_warnings (decl_of d)) rest ∙ sym (ap (λ l. old ++ l) (decls_split ds i d lt got)) ∙ inv

pub decls_end : (ds : List Decl) (i : ℕ) (old whole : List Warning) → length ds ≤ i → old ++ program_warnings (map decl_of (drop i ds)) ≡ whole → old ≡ whole
decls_end ds i old whole le inv = sym (append-nil old) ∙ ap (λ l. old ++ program_warnings (map decl_of l)) (sym (drop_all i ds le)) ∙ inv

-- the walks of a `for` whose init is done
pub begun_for : (x : List ℕ) (at : Place) (e : Option ExprTree) (t b : Body) (w : Walks) → w ≡ tested x e (in_turn (round (alone x b)) (alone x t))
    → w ≡ alone x (ForStmt at End e t b End)
begun_for x at e t b w is = is ∙ sym (in_turn_empty (tested x e (in_turn (round (alone x b)) (alone x t))))
