-- What each kind of statement adds to a layout.
use Rattle.std.proofs.Common.{◌≡◌, ℕ, suc, ◌+◌, ◌<◌, List, [], ◌∷◌, ◌++◌, length, drop, get_or, refl, sym, ap, ◌∙◌, append_assoc}
use Rattle.std.proofs.lemmas.List.{append-nil, drop_more}
use Rattle.std.specs.Option.{option_map}
use Rattle.std.specs.declared.option.Option.{Option}
use Rattle.std.specs.declared.option.Option.TheVariants.{None, Some}
use Rattle.std.specs.declared.alloc.Global.{Global}
use Rattle.std.specs.declared.boxed.Box.{Box}
use Rattle.std.specs.declared.vec.Vec.{Vec}
use Rattle.flow_base.specs.declared.place.Place.{Place}
use Rattle.flow_tree.specs.declared.ty.Ident.{Ident}
use Rattle.flow_tree.specs.declared.expr.Expr.{Expr}
use Rattle.flow_tree.specs.declared.stmt.Into.{Into}
use Rattle.flow_tree.specs.declared.stmt.Waiting.{Waiting}
use Rattle.flow_tree.specs.declared.stmt.When.{When, out-When}
use Rattle.flow_tree.specs.declared.stmt.Stmt.{Stmt}
use Rattle.flow_tree.specs.declared.stmt.StmtKind.TheVariants as kind
use Rattle.flow_tree.specs.View.{expr_of}
use Rattle.flow_tree.specs.StmtView.{into_of, waiting_of, stmt_of, body_of, branch_of, branches_of, simple_of, else_of}
use Rattle.flow_tree.specs.Tree.{TypeTree, ErrorType}
use Rattle.flow_tree.specs.Body.{WaitTree, Body, End, BlockStmt, IfStmt, IfElseStmt, WhileStmt, ForStmt, LoopStmt, TryStmt, ChooseStmt, DeclareStmt, WaitStmt, Branches}
use Rattle.flow_tree.specs.Decls.{SlotTree}
use Rattle.flow_ast.specs.Slots.{declared_slots, body_slots, branch_slots, waited_slots, body_groups, branch_groups, branch_waits, into_slots}
use Rattle.flow_layout.specs.Locals.{declared_locals, body_locals, branch_locals, counts, into_locals}
use Rattle.flow_layout.specs.Laying.{LayoutTree, with_body, with_branches, with_more, with_group, LaysBefore, else_body}
use Rattle.flow_layout.proofs.StmtKinds.{is_block, is_while, is_loop, is_if, is_if_else, is_for, is_try, is_choose, is_declare, is_wait, when_is}

counts_append : (gs hs : List (List WaitTree)) → counts (gs ++ hs) ≡ counts gs ++ counts hs
counts_append [] hs = refl
counts_append (g ∷ gs) hs = ap (λ l. length g ∷ l) (counts_append gs hs)

three : {A : Type 0} (a b c d : List A) → ((a ++ b) ++ c) ++ d ≡ a ++ (b ++ c ++ d)
three a b c d = append_assoc (a ++ b) c d ∙ append_assoc a b (c ++ d) ∙ ap (λ l. a ++ l) (sym (append_assoc b c d))

four : {A : Type 0} (a b c d e : List A) → (((a ++ b) ++ c) ++ d) ++ e ≡ a ++ (b ++ c ++ d ++ e)
four a b c d e = ap (λ l. l ++ e) (three a b c d) ∙ append_assoc a (b ++ c ++ d) e

counts_three : (a b c : List (List WaitTree)) → counts (a ++ b ++ c) ≡ counts a ++ counts b ++ counts c
counts_three a b c = counts_append (a ++ b) c ∙ ap (λ l. l ++ counts c) (counts_append a b)

counts_four : (a b c d : List (List WaitTree)) → counts (a ++ b ++ c ++ d) ≡ counts a ++ counts b ++ counts c ++ counts d
counts_four a b c d = counts_append (a ++ b ++ c) d ∙ ap (λ l. l ++ counts d) (counts_three a b c)

-- a body, two and three bodies before another
pub one_body : (l : LayoutTree) (b k : Body) → with_body (with_body l b) k ≡ record {
  slots = l.slots ++ (body_slots b ++ body_slots k);
  locals = l.locals ++ (body_locals b ++ body_locals k);
  branches = l.branches ++ counts (body_groups b ++ body_groups k);
}
one_body l b k i = record {
  slots = append_assoc l.slots (body_slots b) (body_slots k) i;
  locals = append_assoc l.locals (body_locals b) (body_locals k) i;
  branches = (append_assoc l.branches (counts (body_groups b)) (counts (body_groups k)) ∙ ap (λ x. l.branches ++ x) (sym (counts_append (body_groups b) (body_groups k)))) i;
}

pub two_bodies : (l : LayoutTree) (b c k : Body) → with_body (with_body (with_body l b) c) k ≡ record {
  slots = l.slots ++ (body_slots b ++ body_slots c ++ body_slots k);
  locals = l.locals ++ (body_locals b ++ body_locals c ++ body_locals k);
  branches = l.branches ++ counts (body_groups b ++ body_groups c ++ body_groups k);
}
two_bodies l b c k i = record {
  slots = three l.slots (body_slots b) (body_slots c) (body_slots k) i;
  locals = three l.locals (body_locals b) (body_locals c) (body_locals k) i;
  branches = (three l.branches (counts (body_groups b)) (counts (body_groups c)) (counts (body_groups k))
      ∙ ap (λ x. l.branches ++ x) (sym (counts_three (body_groups b) (body_groups c) (body_groups k)))) i;
}

pub three_bodies : (l : LayoutTree) (b c d k : Body) → with_body (with_body (with_body (with_body l b) c) d) k ≡ record {
  slots = l.slots ++ (body_slots b ++ body_slots c ++ body_slots d ++ body_slots k);
  locals = l.locals ++ (body_locals b ++ body_locals c ++ body_locals d ++ body_locals k);
  branches = l.branches ++ counts (body_groups b ++ body_groups c ++ body_groups d ++ body_groups k);
}
three_bodies l b c d k i = record {
  slots = four l.slots (body_slots b) (body_slots c) (body_slots d) (body_slots k) i;
  locals = four l.locals (body_locals b) (body_locals c) (body_locals d) (body_locals k) i;
  branches = (four l.branches (counts (body_groups b)) (counts (body_groups c)) (counts (body_groups d)) (counts (body_groups k))
      ∙ ap (λ x. l.branches ++ x) (sym (counts_four (body_groups b) (body_groups c) (body_groups d) (body_groups k)))) i;
}

-- a try: its body, the local of the error, its handler
pub try_bodies : (l : LayoutTree) (b h k : Body) → with_body (with_body (with_more (with_body l b) [] (ErrorType ∷ [])) h) k ≡ record {
  slots = l.slots ++ (body_slots b ++ body_slots h ++ body_slots k);
  locals = l.locals ++ (body_locals b ++ (ErrorType ∷ body_locals h) ++ body_locals k);
  branches = l.branches ++ counts (body_groups b ++ body_groups h ++ body_groups k);
}
try_bodies l b h k i = record {
  slots = (ap (λ x. (x ++ body_slots h) ++ body_slots k) (append-nil (l.slots ++ body_slots b)) ∙ three l.slots (body_slots b) (body_slots h) (body_slots k)) i;
  locals = (ap (λ x. x ++ body_locals k) (append_assoc (l.locals ++ body_locals b) (ErrorType ∷ []) (body_locals h))
      ∙ three l.locals (body_locals b) (ErrorType ∷ body_locals h) (body_locals k)) i;
  branches = (three l.branches (counts (body_groups b)) (counts (body_groups h)) (counts (body_groups k))
      ∙ ap (λ x. l.branches ++ x) (sym (counts_three (body_groups b) (body_groups h) (body_groups k)))) i;
}

-- the branches of a choose, and a body behind it
pub choose_bodies : (l : LayoutTree) (bs : Branches) (n : ℕ) (k : Body) → n ≡ length (branch_waits bs) → with_body (with_branches (with_group l n) bs) k ≡ record {
  slots = l.slots ++ (branch_slots bs ++ body_slots k);
  locals = l.locals ++ (branch_locals bs ++ body_locals k);
  branches = l.branches ++ counts (branch_waits bs ∷ (branch_groups bs ++ body_groups k));
}
choose_bodies l bs n k e i = record {
  slots = append_assoc l.slots (branch_slots bs) (body_slots k) i;
  locals = append_assoc l.locals (branch_locals bs) (body_locals k) i;
  branches = (ap (λ m. ((l.branches ++ (m ∷ [])) ++ counts (branch_groups bs)) ++ counts (body_groups k)) e
      ∙ three l.branches (length (branch_waits bs) ∷ []) (counts (branch_groups bs)) (counts (body_groups k))
      ∙ ap (λ x. l.branches ++ (length (branch_waits bs) ∷ x)) (sym (counts_append (branch_groups bs) (body_groups k)))) i;
}

-- what a declaration or a wait adds, and a body behind it
pub more_body : (l : LayoutTree) (ss : List SlotTree) (ts : List TypeTree) (k : Body) → with_body (with_more l ss ts) k ≡ record {
  slots = l.slots ++ (ss ++ body_slots k);
  locals = l.locals ++ (ts ++ body_locals k);
  branches = l.branches ++ counts (body_groups k);
}
more_body l ss ts k i = record {
  slots = append_assoc l.slots ss (body_slots k) i;
  locals = append_assoc l.locals ts (body_locals k) i;
  branches = l.branches ++ counts (body_groups k);
}

pub wait_body : (l : LayoutTree) (w : WaitTree) (k : Body) → with_body (with_more (with_group l 1) (into_slots w.into) (into_locals w.into)) k ≡ record {
  slots = l.slots ++ (waited_slots w ++ body_slots k);
  locals = l.locals ++ (into_locals w.into ++ body_locals k);
  branches = l.branches ++ counts ((w ∷ []) ∷ body_groups k);
}
wait_body l w k i = record {
  slots = append_assoc l.slots (into_slots w.into) (body_slots k) i;
  locals = append_assoc l.locals (into_locals w.into) (body_locals k) i;
  branches = append_assoc l.branches (1 ∷ []) (counts (body_groups k)) i;
}

-- a branch before others
pub branch_body : (l : LayoutTree) (w : WaitTree) (b : Body) (bs : Branches) → with_branches (with_body (with_more l (into_slots w.into) (into_locals w.into)) b) bs ≡ record {
  slots = l.slots ++ (waited_slots w ++ body_slots b ++ branch_slots bs);
  locals = l.locals ++ (into_locals w.into ++ body_locals b ++ branch_locals bs);
  branches = l.branches ++ counts (body_groups b ++ branch_groups bs);
}
branch_body l w b bs i = record {
  slots = three l.slots (into_slots w.into) (body_slots b) (branch_slots bs) i;
  locals = three l.locals (into_locals w.into) (body_locals b) (branch_locals bs) i;
  branches = (append_assoc l.branches (counts (body_groups b)) (counts (branch_groups bs)) ∙ ap (λ x. l.branches ++ x) (sym (counts_append (body_groups b) (branch_groups bs)))) i;
}

-- the layout m is l with what the statement adds
pub lays : (s : Stmt) (f : Body → Body) (l m n : LayoutTree) → ((k : Body) → stmt_of s k ≡ f k) → m ≡ n → ((k : Body) → with_body n k ≡ with_body l (f k)) → LaysBefore (stmt_of s) l m
lays s f l m n e h g k = ap (λ x. with_body x k) h ∙ g k ∙ ap (with_body l) (sym (e k))

-- each kind of statement, with what its parts add
pub after_block : (s : Stmt) (b : Vec Stmt Global) (items : List Stmt) (l m : LayoutTree) → s.kind ≡ kind.Block b → items ≡ b.items → m ≡ with_body l (body_of items) → LaysBefore (stmt_of s) l m
after_block s b items l m e d h = lays s (BlockStmt s.at (body_of b.items)) l m (with_body l (body_of b.items)) (λ k. is_block s b k e) (h ∙ ap (λ x. with_body l (body_of x)) d)
    (one_body l (body_of b.items))

pub after_while : (s : Stmt) (t : Expr) (b : Vec Stmt Global) (items : List Stmt) (l m : LayoutTree) → s.kind ≡ kind.While t b → items ≡ b.items → m ≡ with_body l (body_of items)
    → LaysBefore (stmt_of s) l m
after_while s t b items l m e d h = lays s (WhileStmt s.at (expr_of t) (body_of b.items)) l m (with_body l (body_of b.items)) (λ k. is_while s t b k e) (h ∙ ap (λ x. with_body l (body_of x)) d)
    (one_body l (body_of b.items))

pub after_loop : (s : Stmt) (b : Vec Stmt Global) (items : List Stmt) (l m : LayoutTree) → s.kind ≡ kind.Loop b → items ≡ b.items → m ≡ with_body l (body_of items) → LaysBefore (stmt_of s) l m
after_loop s b items l m e d h = lays s (LoopStmt s.at (body_of b.items)) l m (with_body l (body_of b.items)) (λ k. is_loop s b k e) (h ∙ ap (λ x. with_body l (body_of x)) d)
    (one_body l (body_of b.items))

with_end : (l : LayoutTree) → with_body l End ≡ l
with_end l i = record { slots = append-nil l.slots i; locals = append-nil l.locals i; branches = append-nil l.branches i }

pub after_if : (s : Stmt) (t : Expr) (b : Vec Stmt Global) (o : Option (Vec Stmt Global)) (items : List Stmt) (l m n : LayoutTree) → s.kind ≡ kind.If t b o → items ≡ b.items
    → m ≡ with_body l (body_of items) → n ≡ with_body m (else_body (else_of o)) → LaysBefore (stmt_of s) l n
after_if s t b None items l m n e d h g =
    lays s (IfStmt s.at (expr_of t) (body_of b.items)) l n (with_body l (body_of b.items)) (λ k. is_if s t b k e)
    (g ∙ with_end m ∙ h ∙ ap (λ x. with_body l (body_of x)) d) (one_body l (body_of b.items))
after_if s t b (Some c) items l m n e d h g =
    lays s (IfElseStmt s.at (expr_of t) (body_of b.items) (body_of c.items)) l n (with_body (with_body l (body_of b.items)) (body_of c.items)) (λ k. is_if_else s t b c k e)
    (g ∙ ap (λ x. with_body x (body_of c.items)) (h ∙ ap (λ x. with_body l (body_of x)) d)) (two_bodies l (body_of b.items) (body_of c.items))

pub after_for : (s : Stmt) (i : Option (Box Stmt Global)) (t : Option Expr) (u : Option (Box Stmt Global)) (b : Vec Stmt Global) (items : List Stmt) (l m n o : LayoutTree)
    → s.kind ≡ kind.For i t u b → items ≡ b.items → m ≡ with_body l (simple_of i) → n ≡ with_body m (simple_of u) → o ≡ with_body n (body_of items) → LaysBefore (stmt_of s) l o
after_for s i t u b items l m n o e d h g f =
    lays s (ForStmt s.at (simple_of i) (option_map expr_of t) (simple_of u) (body_of b.items)) l o (with_body (with_body (with_body l (simple_of i)) (simple_of u)) (body_of b.items))
    (λ k. is_for s i t u b k e)
    (f ∙ ap (λ x. with_body n (body_of x)) d ∙ ap (λ x. with_body x (body_of b.items)) (g ∙ ap (λ x. with_body x (simple_of u)) h)) (three_bodies l (simple_of i) (simple_of u) (body_of b.items))

pub after_try : (s : Stmt) (b : Vec Stmt Global) (p : Place) (x : Ident) (h : Vec Stmt Global) (items hands : List Stmt) (l m n o : LayoutTree)
    → s.kind ≡ kind.Try b p x h → items ≡ b.items → hands ≡ h.items → m ≡ with_body l (body_of items) → n ≡ with_more m [] (ErrorType ∷ []) → o ≡ with_body n (body_of hands)
    → LaysBefore (stmt_of s) l o
after_try s b p x h items hands l m n o e d c f g j =
    lays s (TryStmt s.at (body_of b.items) p x (body_of h.items)) l o (with_body (with_more (with_body l (body_of b.items)) [] (ErrorType ∷ [])) (body_of h.items)) (λ k. is_try s b p x h k e)
    (j ∙ ap (λ y. with_body n (body_of y)) c ∙ ap (λ y. with_body y (body_of h.items)) (g ∙ ap (λ y. with_more y [] (ErrorType ∷ [])) (f ∙ ap (λ y. with_body l (body_of y)) d)))
    (try_bodies l (body_of b.items) (body_of h.items))

count_branches : (ws : List When) → length (branch_waits (branches_of ws)) ≡ length ws
count_branches [] = refl
count_branches (w ∷ ws) = ap (λ f. length (branch_waits (f (branches_of ws)))) (when_is w) ∙ ap suc (count_branches ws)

pub after_choose : (s : Stmt) (bs : Vec When Global) (items : List When) (c : ℕ) (l m n : LayoutTree)
    → s.kind ≡ kind.Choose bs → items ≡ bs.items → c ≡ length bs.items → m ≡ with_group l c → n ≡ with_branches m (branches_of items) → LaysBefore (stmt_of s) l n
after_choose s bs items c l m n e d z h g =
    lays s (ChooseStmt s.at (branches_of bs.items)) l n (with_branches (with_group l c) (branches_of bs.items)) (λ k. is_choose s bs k e)
    (g ∙ ap (λ x. with_branches m (branches_of x)) d ∙ ap (λ x. with_branches x (branches_of bs.items)) h)
    (λ k. choose_bodies l (branches_of bs.items) c k (z ∙ sym (count_branches bs.items)))

pub after_declare : (s : Stmt) (i : Into) (v : Option Expr) (l m : LayoutTree)
    → s.kind ≡ kind.Declare i v → m ≡ with_more l (declared_slots (into_of i)) (declared_locals (into_of i)) → LaysBefore (stmt_of s) l m
after_declare s i v l m e h =
    lays s (DeclareStmt s.at (into_of i) (option_map expr_of v)) l m (with_more l (declared_slots (into_of i)) (declared_locals (into_of i))) (λ k. is_declare s i v k e) h
    (more_body l (declared_slots (into_of i)) (declared_locals (into_of i)))

pub after_wait : (s : Stmt) (w : Waiting) (l m n : LayoutTree)
    → s.kind ≡ kind.Wait w → m ≡ with_group l 1 → n ≡ with_more m (into_slots (option_map into_of w.into)) (into_locals (option_map into_of w.into)) → LaysBefore (stmt_of s) l n
after_wait s w l m n e h g =
    lays s (WaitStmt s.at (waiting_of w)) l n (with_more (with_group l 1) (into_slots (option_map into_of w.into)) (into_locals (option_map into_of w.into))) (λ k. is_wait s w k e)
    (g ∙ ap (λ x. with_more x (into_slots (option_map into_of w.into)) (into_locals (option_map into_of w.into))) h) (wait_body l (waiting_of w))

-- one more branch
pub after_branch : (w : When) (items : List Stmt) (l m n : LayoutTree) (bs : Branches) → items ≡ (out-When w).body.items
    → m ≡ with_more l (into_slots (option_map into_of (out-When w).waiting.into)) (into_locals (option_map into_of (out-When w).waiting.into)) → n ≡ with_body m (body_of items)
    → with_branches n bs ≡ with_branches l (branch_of w bs)
after_branch w items l m n bs d h g =
    ap (λ x. with_branches x bs) (g ∙ ap (λ x. with_body m (body_of x)) d ∙ ap (λ x. with_body x (body_of (out-When w).body.items)) h)
    ∙ branch_body l (waiting_of (out-When w).waiting) (body_of (out-When w).body.items) bs ∙ ap (λ f. with_branches l (f bs)) (sym (when_is w))

pub next_branch : (ws : List When) (i : ℕ) (w : When) (items : List Stmt) (l m n : LayoutTree) (all : LayoutTree) → i < length ws → w ≡ get_or ws i w → items ≡ (out-When w).body.items
    → m ≡ with_more l (into_slots (option_map into_of (out-When w).waiting.into)) (into_locals (option_map into_of (out-When w).waiting.into)) → n ≡ with_body m (body_of items)
    → with_branches l (branches_of (drop i ws)) ≡ all → with_branches n (branches_of (drop (i + 1) ws)) ≡ all
next_branch ws i w items l m n all lt e d h g inv =
    after_branch w items l m n (branches_of (drop (i + 1) ws)) d h g
    ∙ ap (λ x. with_branches l (branch_of x (branches_of (drop (i + 1) ws)))) e
    ∙ ap (λ x. with_branches l (branches_of x)) (sym (drop_more ws i w lt)) ∙ inv
