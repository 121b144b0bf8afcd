-- The ways out of a statement of each kind, and the waits behind it.
use Rattle.std.proofs.Common.{◌≡◌, ℕ, ◌-◌, List, length, sym, ap, ap₂, ◌∙◌, arith}
use Rattle.std.specs.Option.{option_map}
use Rattle.std.specs.declared.option.Option.{Option}
use Rattle.std.specs.declared.option.Option.TheVariants.{None, Some}
use Rattle.std.specs.declared.alloc.Global.{Global}
use Rattle.std.specs.declared.boxed.Box.{Box}
use Rattle.std.specs.declared.vec.Vec.{Vec}
use Rattle.flow_base.specs.declared.place.Place.{Place}
use Rattle.flow_tree.specs.declared.ty.Ident.{Ident}
use Rattle.flow_tree.specs.declared.expr.Expr.{Expr}
use Rattle.flow_tree.specs.declared.stmt.When.{When}
use Rattle.flow_tree.specs.declared.stmt.Stmt.{Stmt}
use Rattle.flow_tree.specs.declared.stmt.StmtKind.TheVariants as kind
use Rattle.flow_tree.specs.View.{expr_of}
use Rattle.flow_tree.specs.StmtView.{stmt_of, body_of, branches_of, simple_of, else_of}
use Rattle.flow_tree.specs.Body.{Body}
use Rattle.flow_ast.specs.Slots.{body_groups, branch_groups, branch_waits}
use Rattle.flow_ast.specs.Typing.{is_there}
use Rattle.flow_layout.proofs.StmtKinds.{is_if, is_if_else, is_for, is_while, is_loop, is_try, is_choose}
use Rattle.flow_staterule.specs.declared.ways.Ways.{Ways}
use Rattle.flow_staterule.specs.Ways.{ways, branch_ways, branching, else_waits, at_once, both, follow, node, plain, sequence, with_step, looped, waited_at}
use Rattle.flow_staterule.proofs.Passing.{past_two, past_three, past_four, past_choose}

-- the waits behind a body
abbrev behind : ℕ → Body → ℕ
behind n b = n - length (body_groups b)

pub waits_while : (s : Stmt) (e : Expr) (b : Vec Stmt Global) (n m : ℕ) → s.kind ≡ kind.While e b → m ≡ n - length (body_groups (body_of b.items)) → (k : Body)
    → n - length (body_groups (stmt_of s k)) ≡ m - length (body_groups k)
waits_while s e b n m is l k = ap (behind n) (is_while s e b k is) ∙ past_two n m (body_groups (body_of b.items)) (body_groups k) l

pub waits_loop : (s : Stmt) (b : Vec Stmt Global) (n m : ℕ) → s.kind ≡ kind.Loop b → m ≡ n - length (body_groups (body_of b.items)) → (k : Body)
    → n - length (body_groups (stmt_of s k)) ≡ m - length (body_groups k)
waits_loop s b n m is l k = ap (behind n) (is_loop s b k is) ∙ past_two n m (body_groups (body_of b.items)) (body_groups k) l

pub waits_try : (s : Stmt) (b : Vec Stmt Global) (p : Place) (x : Ident) (h : Vec Stmt Global) (items hands : List Stmt) (n m l : ℕ) → s.kind ≡ kind.Try b p x h → items ≡ b.items → hands ≡ h.items
    → m ≡ n - length (body_groups (body_of items)) → l ≡ m - length (body_groups (body_of hands)) → (k : Body) → n - length (body_groups (stmt_of s k)) ≡ l - length (body_groups k)
waits_try s b p x h items hands n m l is d c me le k =
    ap (behind n) (is_try s b p x h k is)
    ∙ past_three n m l (body_groups (body_of b.items)) (body_groups (body_of h.items)) (body_groups k) (me ∙ ap (λ y. behind n (body_of y)) d) (le ∙ ap (λ y. behind m (body_of y)) c)

pub waits_for : (s : Stmt) (i : Option (Box Stmt Global)) (e : Option Expr) (t : Option (Box Stmt Global)) (b : Vec Stmt Global) (items : List Stmt) (n m l o : ℕ) → s.kind ≡ kind.For i e t b
    → items ≡ b.items
    → m ≡ n - length (body_groups (simple_of i)) → l ≡ m - length (body_groups (simple_of t)) → o ≡ l - length (body_groups (body_of items))
    → (k : Body) → n - length (body_groups (stmt_of s k)) ≡ o - length (body_groups k)
waits_for s i e t b items n m l o is d me le oe k =
    ap (behind n) (is_for s i e t b k is)
    ∙ past_four n m l o (body_groups (simple_of i)) (body_groups (simple_of t)) (body_groups (body_of b.items)) (body_groups k) me le (oe ∙ ap (λ y. behind l (body_of y)) d)

pub waits_choose : (s : Stmt) (bs : Vec When Global) (items : List When) (n m l : ℕ) → s.kind ≡ kind.Choose bs → items ≡ bs.items → m ≡ n - 1 → l ≡ m - length (branch_groups (branches_of items))
    → (k : Body) → n - length (body_groups (stmt_of s k)) ≡ l - length (body_groups k)
waits_choose s bs items n m l is d me le k =
    ap (behind n) (is_choose s bs k is)
    ∙ past_choose n m l (branch_waits (branches_of bs.items)) (branch_groups (branches_of bs.items)) (body_groups k) me (le ∙ ap (λ y. m - length (branch_groups (branches_of y))) d)

nothing_less : (n m l : ℕ) → m ≡ n → l ≡ m - 0 → l ≡ n
nothing_less n m l e f = omega (arith, e, f)

pub waits_if : (s : Stmt) (e : Expr) (b : Vec Stmt Global) (o : Option (Vec Stmt Global)) (items : List Stmt) (n m l : ℕ) → s.kind ≡ kind.If e b o → items ≡ b.items
    → m ≡ n - length (body_groups (body_of items)) → l ≡ m - else_waits (else_of o) → (k : Body) → n - length (body_groups (stmt_of s k)) ≡ l - length (body_groups k)
waits_if s e b None items n m l is d me le k =
    ap (behind n) (is_if s e b k is)
    ∙ past_two n l (body_groups (body_of b.items)) (body_groups k) (nothing_less (behind n (body_of b.items)) m l (me ∙ ap (λ y. behind n (body_of y)) d) le)
waits_if s e b (Some c) items n m l is d me le k =
    ap (behind n) (is_if_else s e b c k is)
    ∙ past_three n m l (body_groups (body_of b.items)) (body_groups (body_of c.items)) (body_groups k) (me ∙ ap (λ y. behind n (body_of y)) d) le

pub ways_if : (s : Stmt) (e : Expr) (b : Vec Stmt Global) (o : Option (Vec Stmt Global)) (items : List Stmt) (w v : Ways) (n m l : ℕ) → s.kind ≡ kind.If e b o → items ≡ b.items
    → w ≡ ways n (body_of items) → m ≡ n - length (body_groups (body_of items)) → v ≡ branching m w (else_of o) → l ≡ m - else_waits (else_of o)
    → (k : Body) → ways n (stmt_of s k) ≡ sequence v (ways l k)
ways_if s e b None items w v n m l is d we me ve le k =
    let wb : w ≡ ways n (body_of b.items) = we ∙ ap (λ y. ways n (body_of y)) d in
    let lb : l ≡ behind n (body_of b.items) = nothing_less (behind n (body_of b.items)) m l (me ∙ ap (λ y. behind n (body_of y)) d) le in
    ap (ways n) (is_if s e b k is) ∙ sym (ap₂ (λ x y. sequence x (ways y k)) (ve ∙ ap (λ x. both (plain at_once) x) wb) lb)
ways_if s e b (Some c) items w v n m l is d we me ve le k =
    let wb : w ≡ ways n (body_of b.items) = we ∙ ap (λ y. ways n (body_of y)) d in
    let mb : m ≡ behind n (body_of b.items) = me ∙ ap (λ y. behind n (body_of y)) d in
    ap (ways n) (is_if_else s e b c k is)
    ∙ sym (ap₂ (λ x y. sequence x (ways y k)) (ve ∙ ap₂ (λ x y. both (node at_once) (both x (ways y (body_of c.items)))) wb mb) (le ∙ ap (λ y. y - length (body_groups (body_of c.items))) mb))

pub ways_for : (s : Stmt) (i : Option (Box Stmt Global)) (e : Option Expr) (t : Option (Box Stmt Global)) (b : Vec Stmt Global) (items : List Stmt) (w v u z : Ways) (n m l o : ℕ)
    → s.kind ≡ kind.For i e t b → items ≡ b.items
    → w ≡ ways n (simple_of i) → m ≡ n - length (body_groups (simple_of i)) → v ≡ ways m (simple_of t) → l ≡ m - length (body_groups (simple_of t))
    → u ≡ ways l (body_of items) → o ≡ l - length (body_groups (body_of items)) → z ≡ sequence w (looped (is_there (option_map expr_of e)) (with_step u v))
    → (k : Body) → ways n (stmt_of s k) ≡ sequence z (ways o k)
ways_for s i e t b items w v u z n m l o is d we me ve le ue oe ze k =
    let lb : l ≡ behind (behind n (simple_of i)) (simple_of t) = le ∙ ap (λ y. behind y (simple_of t)) me in
    let ub : u ≡ ways (behind (behind n (simple_of i)) (simple_of t)) (body_of b.items) = ue ∙ ap₂ (λ x y. ways x (body_of y)) lb d in
    let vb : v ≡ ways (behind n (simple_of i)) (simple_of t) = ve ∙ ap (λ y. ways y (simple_of t)) me in
    let ob : o ≡ behind (behind (behind n (simple_of i)) (simple_of t)) (body_of b.items) = oe ∙ ap₂ (λ x y. behind x (body_of y)) lb d in
    ap (ways n) (is_for s i e t b k is)
    ∙ sym (ap₂ (λ x y. sequence x (ways y k)) (ze ∙ ap (λ x. sequence x (looped (is_there (option_map expr_of e)) (with_step u v))) we
    ∙ ap₂ (λ x y. sequence (ways n (simple_of i)) (looped (is_there (option_map expr_of e)) (with_step x y))) ub vb) ob)

pub ways_choose : (s : Stmt) (bs : Vec When Global) (items : List When) (w v : Ways) (n m l : ℕ) → s.kind ≡ kind.Choose bs → items ≡ bs.items → m ≡ n - 1 → w ≡ branch_ways m (branches_of items)
    → l ≡ m - length (branch_groups (branches_of items)) → v ≡ follow (waited_at n) (both (node at_once) w) → (k : Body) → ways n (stmt_of s k) ≡ sequence v (ways l k)
ways_choose s bs items w v n m l is d me we le ve k =
    let wb : w ≡ branch_ways (n - 1) (branches_of bs.items) = we ∙ ap₂ (λ x y. branch_ways x (branches_of y)) me d in
    let lb : l ≡ n - 1 - length (branch_groups (branches_of bs.items)) = le ∙ ap₂ (λ x y. x - length (branch_groups (branches_of y))) me d in
    ap (ways n) (is_choose s bs k is) ∙ sym (ap₂ (λ x y. sequence x (ways y k)) (ve ∙ ap (λ x. follow (waited_at n) (both (node at_once) x)) wb) lb)
