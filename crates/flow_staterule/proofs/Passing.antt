-- Statements and branches one after another: the ways out, and the waits that are still looked for.
use Rattle.std.proofs.Common.{◌≡◌, ℕ, ◌+◌, ◌-◌, ◌<◌, ◌≤◌, List, ◌∷◌, ◌++◌, drop, get_or, length, sym, ap, ◌∙◌, arith}
use Rattle.std.proofs.lemmas.List.{length-append, drop_more, drop_all}
use Rattle.flow_tree.specs.Body.{Body, Branches}
use Rattle.flow_tree.specs.StmtView.{stmt_of, body_of, branch_of, branches_of}
use Rattle.flow_tree.specs.declared.stmt.Stmt.{Stmt}
use Rattle.flow_tree.specs.declared.stmt.When.{When}
use Rattle.flow_ast.specs.Slots.{body_groups, branch_groups}
use Rattle.flow_staterule.specs.declared.ways.Ways.{Ways}
use Rattle.flow_staterule.specs.Ways.{ways, branch_ways, sequence, both}
use Rattle.flow_staterule.proofs.Sequences.{sequence_assoc, sequence_empty, both_assoc, both_none}

-- the waits behind parts, one after the other
pub past_two : {A : Type 0} (n m : ℕ) (xs ys : List A) → m ≡ n - length xs → n - length (xs ++ ys) ≡ m - length ys
past_two n m xs ys d = let e : length (xs ++ ys) ≡ length xs + length ys = length-append xs ys in omega (d, e, arith)

pub past_three : {A : Type 0} (n m l : ℕ) (xs ys zs : List A) → m ≡ n - length xs → l ≡ m - length ys → n - length (xs ++ ys ++ zs) ≡ l - length zs
past_three n m l xs ys zs d c = past_two n l (xs ++ ys) zs (c ∙ sym (past_two n m xs ys d))

pub past_four : {A : Type 0} (n m l k : ℕ) (ws xs ys zs : List A) → m ≡ n - length ws → l ≡ m - length xs → k ≡ l - length ys → n - length (ws ++ xs ++ ys ++ zs) ≡ k - length zs
past_four n m l k ws xs ys zs d c b = past_two n k (ws ++ xs ++ ys) zs (b ∙ sym (past_three n m l ws xs ys d c))

pub past_choose : {A : Type 0} (n m l : ℕ) (x : A) (xs ys : List A) → m ≡ n - 1 → l ≡ m - length xs → n - length (x ∷ (xs ++ ys)) ≡ l - length ys
past_choose n m l x xs ys d c = let e : length (xs ++ ys) ≡ length xs + length ys = length-append xs ys in omega (d, c, e, arith)

none_left : (n : ℕ) → n - 0 ≡ n
none_left n = omega arith

-- a body is its next statement before the others
split_body : (ss : List Stmt) (i : ℕ) (s : Stmt) → i < length ss → s ≡ get_or ss i s → body_of (drop i ss) ≡ stmt_of s (body_of (drop (i + 1) ss))
split_body ss i s lt got = ap body_of (drop_more ss i s lt) ∙ sym (ap (λ y. stmt_of y (body_of (drop (i + 1) ss))) got)

split_branches : (ws : List When) (i : ℕ) (w : When) → i < length ws → w ≡ get_or ws i w → branches_of (drop i ws) ≡ branch_of w (branches_of (drop (i + 1) ws))
split_branches ws i w lt got = ap branches_of (drop_more ws i w lt) ∙ sym (ap (λ y. branch_of y (branches_of (drop (i + 1) ws))) got)

pub ways_next : (ss : List Stmt) (i : ℕ) (s : Stmt) (w v u whole : Ways) (n m : ℕ) → i < length ss → s ≡ get_or ss i s → u ≡ sequence w v
    → ((k : Body) → ways n (stmt_of s k) ≡ sequence v (ways m k)) → sequence w (ways n (body_of (drop i ss))) ≡ whole → sequence u (ways m (body_of (drop (i + 1) ss))) ≡ whole
ways_next ss i s w v u whole n m lt got ue h inv =
    let k = body_of (drop (i + 1) ss) in
    ap (λ x. sequence x (ways m k)) ue ∙ sequence_assoc w v (ways m k) ∙ sym (ap (sequence w) (ap (ways n) (split_body ss i s lt got) ∙ h k)) ∙ inv

pub looked_next : (ss : List Stmt) (i : ℕ) (s : Stmt) (n m whole : ℕ) → i < length ss → s ≡ get_or ss i s
    → ((k : Body) → n - length (body_groups (stmt_of s k)) ≡ m - length (body_groups k)) → n - length (body_groups (body_of (drop i ss))) ≡ whole
    → m - length (body_groups (body_of (drop (i + 1) ss))) ≡ whole
looked_next ss i s n m whole lt got h inv =
    let k = body_of (drop (i + 1) ss) in
    sym (ap (λ b. n - length (body_groups b)) (split_body ss i s lt got) ∙ h k) ∙ inv

pub ways_end : (ss : List Stmt) (i : ℕ) (w whole : Ways) (n : ℕ) → length ss ≤ i → sequence w (ways n (body_of (drop i ss))) ≡ whole → w ≡ whole
ways_end ss i w whole n le inv = sym (ap (λ x. sequence w (ways n (body_of x))) (drop_all i ss le) ∙ sequence_empty w) ∙ inv

pub looked_end : (ss : List Stmt) (i n whole : ℕ) → length ss ≤ i → n - length (body_groups (body_of (drop i ss))) ≡ whole → n ≡ whole
looked_end ss i n whole le inv = sym (ap (λ x. n - length (body_groups (body_of x))) (drop_all i ss le) ∙ none_left n) ∙ inv

pub branch_ways_next : (ws : List When) (i : ℕ) (b : When) (w v u whole : Ways) (n m : ℕ) → i < length ws → b ≡ get_or ws i b → u ≡ both w v
    → ((k : Branches) → branch_ways n (branch_of b k) ≡ both v (branch_ways m k)) → both w (branch_ways n (branches_of (drop i ws))) ≡ whole
    → both u (branch_ways m (branches_of (drop (i + 1) ws))) ≡ whole
branch_ways_next ws i b w v u whole n m lt got ue h inv =
    let k = branches_of (drop (i + 1) ws) in
    ap (λ x. both x (branch_ways m k)) ue ∙ both_assoc w v (branch_ways m k) ∙ sym (ap (both w) (ap (branch_ways n) (split_branches ws i b lt got) ∙ h k)) ∙ inv

pub branch_looked_next : (ws : List When) (i : ℕ) (b : When) (n m whole : ℕ) → i < length ws → b ≡ get_or ws i b
    → ((k : Branches) → n - length (branch_groups (branch_of b k)) ≡ m - length (branch_groups k)) → n - length (branch_groups (branches_of (drop i ws))) ≡ whole
    → m - length (branch_groups (branches_of (drop (i + 1) ws))) ≡ whole
branch_looked_next ws i b n m whole lt got h inv =
    let k = branches_of (drop (i + 1) ws) in
    sym (ap (λ x. n - length (branch_groups x)) (split_branches ws i b lt got) ∙ h k) ∙ inv

pub branch_ways_end : (ws : List When) (i : ℕ) (w whole : Ways) (n : ℕ) → length ws ≤ i → both w (branch_ways n (branches_of (drop i ws))) ≡ whole → w ≡ whole
branch_ways_end ws i w whole n le inv = sym (ap (λ x. both w (branch_ways n (branches_of x))) (drop_all i ws le) ∙ both_none w) ∙ inv

pub branch_looked_end : (ws : List When) (i n whole : ℕ) → length ws ≤ i → n - length (branch_groups (branches_of (drop i ws))) ≡ whole → n ≡ whole
branch_looked_end ws i n whole le inv = sym (ap (λ x. n - length (branch_groups (branches_of x))) (drop_all i ws le) ∙ none_left n) ∙ inv
