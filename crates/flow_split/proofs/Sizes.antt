-- The size of a body, statement by statement.
use Rattle.std.proofs.Common.{◌≡◌, ℕ, suc, ◌+◌, ◌<◌, ◌≤◌, Bool, true, false, not, List, length, drop, get_or, if◌then◌else◌, refl, ap, sym, ◌∙◌, arith}
use Rattle.std.proofs.lemmas.List.{drop_more, drop_all}
use Rattle.flow_tree.specs.declared.stmt.Stmt.{Stmt}
use Rattle.flow_tree.specs.declared.stmt.When.{When}
use Rattle.flow_tree.specs.StmtView.{stmt_of, body_of, branch_of, branches_of}
use Rattle.flow_tree.specs.Body.{Body, End, Branches}
use Rattle.flow_split.specs.Counts.{blocks_in, locals_in, branch_blocks, branch_local_count, begin_blocks, rest_blocks, ends_with}
use Rattle.flow_split.proofs.Loops.{stmt_has}

-- a statement begins a block where nothing goes on to it
rest_is : (g t : Bool) (s : Stmt) (k : Body) → rest_blocks g t (stmt_of s k) ≡ begin_blocks g + blocks_in t (stmt_of s k)
rest_is true t s k = omega arith
rest_is false t s k = ap (λ b. if b then suc (blocks_in t (stmt_of s k)) else 0) (stmt_has s k) ∙ one_more (blocks_in t (stmt_of s k))
  where
    one_more : (n : ℕ) → suc n ≡ 1 + n
    one_more n = omega arith

pub size_next : (t : Bool) (ss : List Stmt) (i : ℕ) (s : Stmt) (g x : Bool) (a b c n whole : ℕ) → i < length ss → s ≡ get_or ss i s → b ≡ a + begin_blocks g → c ≡ b + n → x ≡ ends_with (stmt_of s End)
    → ((k : Body) → blocks_in t (stmt_of s k) ≡ n + rest_blocks (not (ends_with (stmt_of s End))) t k) → a + rest_blocks g t (body_of (drop i ss)) ≡ whole
    → c + rest_blocks (not x) t (body_of (drop (i + 1) ss)) ≡ whole
size_next t ss i s g x a b c n whole lt got be ce xe h inv =
    let k = body_of (drop (i + 1) ss) in
    let split : body_of (drop i ss) ≡ stmt_of s k = ap body_of (drop_more ss i s lt) ∙ sym (ap (λ y. stmt_of y k) got) in
    let r : rest_blocks g t (body_of (drop i ss)) ≡ begin_blocks g + (n + rest_blocks (not x) t k) =
    ap (rest_blocks g t) split ∙ rest_is g t s k ∙ ap (λ y. begin_blocks g + y) (h k) ∙ ap (λ y. begin_blocks g + (n + rest_blocks (not y) t k)) (sym xe) in
    omega (arith, be, ce, r, inv)

pub locals_next : (ss : List Stmt) (i : ℕ) (s : Stmt) (a b c n whole : ℕ) → i < length ss → s ≡ get_or ss i s → b ≡ a → c ≡ b + n
    → ((k : Body) → locals_in (stmt_of s k) ≡ n + locals_in k) → a + locals_in (body_of (drop i ss)) ≡ whole → c + locals_in (body_of (drop (i + 1) ss)) ≡ whole
locals_next ss i s a b c n whole lt got be ce h inv =
    let k = body_of (drop (i + 1) ss) in
    let split : body_of (drop i ss) ≡ stmt_of s k = ap body_of (drop_more ss i s lt) ∙ sym (ap (λ x. stmt_of x k) got) in
    let r : locals_in (body_of (drop i ss)) ≡ n + locals_in k = ap locals_in split ∙ h k in
    omega (arith, be, ce, r, inv)

nothing : (g t : Bool) → rest_blocks g t End ≡ 0
nothing true t = refl
nothing false t = refl

pub size_end : (g t : Bool) (ss : List Stmt) (i n whole : ℕ) → length ss ≤ i → n + rest_blocks g t (body_of (drop i ss)) ≡ whole → n ≡ whole
size_end g t ss i n whole le inv =
    let r : rest_blocks g t (body_of (drop i ss)) ≡ 0 = ap (λ x. rest_blocks g t (body_of x)) (drop_all i ss le) ∙ nothing g t in
    omega (arith, r, inv)

pub locals_end : (ss : List Stmt) (i n whole : ℕ) → length ss ≤ i → n + locals_in (body_of (drop i ss)) ≡ whole → n ≡ whole
locals_end ss i n whole le inv =
    let r : locals_in (body_of (drop i ss)) ≡ 0 = ap (λ x. locals_in (body_of x)) (drop_all i ss le) in
    omega (arith, r, inv)

-- branch by branch
pub branch_size_next : (t : Bool) (ws : List When) (i : ℕ) (w : When) (a b n whole : ℕ) → i < length ws → w ≡ get_or ws i w → b ≡ a + n
    → ((k : Branches) → branch_blocks t (branch_of w k) ≡ n + branch_blocks t k) → a + branch_blocks t (branches_of (drop i ws)) ≡ whole → b + branch_blocks t (branches_of (drop (i + 1) ws)) ≡ whole
branch_size_next t ws i w a b n whole lt got be h inv =
    let k = branches_of (drop (i + 1) ws) in
    let split : branches_of (drop i ws) ≡ branch_of w k = ap branches_of (drop_more ws i w lt) ∙ sym (ap (λ x. branch_of x k) got) in
    let r : branch_blocks t (branches_of (drop i ws)) ≡ n + branch_blocks t k = ap (branch_blocks t) split ∙ h k in
    omega (arith, be, r, inv)

pub branch_locals_next : (ws : List When) (i : ℕ) (w : When) (a b n whole : ℕ) → i < length ws → w ≡ get_or ws i w → b ≡ a + n
    → ((k : Branches) → branch_local_count (branch_of w k) ≡ n + branch_local_count k) → a + branch_local_count (branches_of (drop i ws)) ≡ whole
    → b + branch_local_count (branches_of (drop (i + 1) ws)) ≡ whole
branch_locals_next ws i w a b n whole lt got be h inv =
    let k = branches_of (drop (i + 1) ws) in
    let split : branches_of (drop i ws) ≡ branch_of w k = ap branches_of (drop_more ws i w lt) ∙ sym (ap (λ x. branch_of x k) got) in
    let r : branch_local_count (branches_of (drop i ws)) ≡ n + branch_local_count k = ap branch_local_count split ∙ h k in
    omega (arith, be, r, inv)
