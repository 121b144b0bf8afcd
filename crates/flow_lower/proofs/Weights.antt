-- Weights are summed up, and stand still at the greatest number.
use Rattle.std.proofs.Common.{◌≡◌, ℕ, ◌+◌, ◌<◌, ◌≤◌, List, [], ◌∷◌, length, drop, get_or, map, refl, sym, ap, ◌∙◌, arith}
use Rattle.std.specs.Prelude.{Bool, true, false, nat_lt, if◌then◌else◌}
use Rattle.std.specs.declared.option.Option.{Option}
use Rattle.std.specs.declared.option.Option.TheVariants.{None, Some}
use Rattle.std.proofs.lemmas.List.{drop_more, drop_all}
use Rattle.flow_base.specs.declared.place.Place.{Place}
use Rattle.flow_tree.specs.declared.limits.TheConstants.{WEIGHT}
use Rattle.flow_tree.specs.declared.stmt.Stmt.{Stmt}
use Rattle.flow_tree.specs.declared.stmt.When.{When}
use Rattle.flow_tree.specs.declared.decl.Decl.{Decl}
use Rattle.flow_tree.specs.Body.{Body, Branches}
use Rattle.flow_tree.specs.Decls.{DeclTree, StructDecl, FunctionDecl, ActorDecl}
use Rattle.flow_tree.specs.DeclView.{decl_of}
use Rattle.flow_tree.specs.StmtView.{stmt_of, body_of, branch_of, branches_of}
use Rattle.flow_split.specs.Weight.{weight, body_weight, branch_weight}
use Rattle.flow_lower.specs.Weighing.{capped, first_heavy}

-- what is summed up may stand still before it is added to, or after
pub capped_left : (a b : ℕ) → capped (capped a + b) ≡ capped (a + b)
capped_left a b = omega arith

pub capped_right : (a b : ℕ) → capped (a + capped b) ≡ capped (a + b)
capped_right a b = omega arith

pub capped_again : (a v : ℕ) → v ≡ capped a → capped v ≡ v
capped_again a v e = omega (arith, e)

more : (w s v r t whole : ℕ) → v ≡ capped (w + s) → capped t ≡ capped (s + r) → capped (w + t) ≡ whole → capped (v + r) ≡ whole
more w s v r t whole ve te inv = omega (arith, ve, te, inv)

pub body_more : (ss : List Stmt) (i : ℕ) (s : Stmt) (w n v whole : ℕ) → i < length ss → s ≡ get_or ss i s → v ≡ capped (w + n)
    → ((k : Body) → capped (body_weight (stmt_of s k)) ≡ capped (n + body_weight k)) → capped (w + body_weight (body_of (drop i ss))) ≡ whole
    → capped (v + body_weight (body_of (drop (i + 1) ss))) ≡ whole
body_more ss i s w n v whole lt got ve is inv =
    let k = body_of (drop (i + 1) ss) in
    let split : body_of (drop i ss) ≡ stmt_of s k = ap body_of (drop_more ss i s lt) ∙ sym (ap (λ y. stmt_of y k) got) in
    more w n v (body_weight k) (body_weight (stmt_of s k)) whole ve (is k) (ap (λ b. capped (w + body_weight b)) (sym split) ∙ inv)

pub body_over : (ss : List Stmt) (i w whole : ℕ) → length ss ≤ i → capped (w + body_weight (body_of (drop i ss))) ≡ whole → capped w ≡ w → w ≡ whole
body_over ss i w whole le inv small =
    let e : capped (w + 0) ≡ whole = ap (λ l. capped (w + body_weight (body_of l))) (sym (drop_all i ss le)) ∙ inv in
    omega (arith, e, small)

pub branches_more : (ws : List When) (i : ℕ) (b : When) (w n v whole : ℕ) → i < length ws → b ≡ get_or ws i b → v ≡ capped (w + n)
    → ((bs : Branches) → capped (branch_weight (branch_of b bs)) ≡ capped (n + branch_weight bs)) → capped (w + branch_weight (branches_of (drop i ws))) ≡ whole
    → capped (v + branch_weight (branches_of (drop (i + 1) ws))) ≡ whole
branches_more ws i b w n v whole lt got ve is inv =
    let k = branches_of (drop (i + 1) ws) in
    let split : branches_of (drop i ws) ≡ branch_of b k = ap branches_of (drop_more ws i b lt) ∙ sym (ap (λ y. branch_of y k) got) in
    more w n v (branch_weight k) (branch_weight (branch_of b k)) whole ve (is k) (ap (λ x. capped (w + branch_weight x)) (sym split) ∙ inv)

pub branches_over : (ws : List When) (i w whole : ℕ) → length ws ≤ i → capped (w + branch_weight (branches_of (drop i ws))) ≡ whole → capped w ≡ w → w ≡ whole
branches_over ws i w whole le inv small =
    let e : capped (w + 0) ≡ whole = ap (λ l. capped (w + branch_weight (branches_of l))) (sym (drop_all i ws le)) ∙ inv in
    omega (arith, e, small)

-- declaration by declaration
abbrev or_else : Option Place → Option Place → Option Place
or_else (Some at) o = Some at
or_else None o = o

first_then : (d : DeclTree) (ds : List DeclTree) → first_heavy (d ∷ ds) ≡ or_else (first_heavy (d ∷ [])) (first_heavy ds)
first_then (StructDecl r) ds = refl
first_then (FunctionDecl f) ds = refl
first_then (ActorDecl a) ds = pick (nat_lt WEIGHT (weight a))
  where
    pick : (b : Bool) → (if b then Some a.at else first_heavy ds) ≡ or_else (if b then Some a.at else None) (first_heavy ds)
    pick true = refl
    pick false = refl

heavy_at : (ds : List Decl) (i : ℕ) (d : Decl) → i < length ds → d ≡ get_or ds i d
    → first_heavy (map decl_of (drop i ds)) ≡ or_else (first_heavy (decl_of d ∷ [])) (first_heavy (map decl_of (drop (i + 1) ds)))
heavy_at ds i d lt got =
    ap (λ l. first_heavy (map decl_of l)) (drop_more ds i d lt) ∙ ap (λ x. first_heavy (decl_of x ∷ map decl_of (drop (i + 1) ds))) (sym got)
    ∙ first_then (decl_of d) (map decl_of (drop (i + 1) ds))

pub heavy_more : (ds : List Decl) (i : ℕ) (d : Decl) (whole : Option Place) → i < length ds → d ≡ get_or ds i d → None ≡ first_heavy (decl_of d ∷ [])
    → first_heavy (map decl_of (drop i ds)) ≡ whole → first_heavy (map decl_of (drop (i + 1) ds)) ≡ whole
heavy_more ds i d whole lt got e inv =
    let rest = first_heavy (map decl_of (drop (i + 1) ds)) in
    ap (λ o. or_else o rest) e ∙ sym (heavy_at ds i d lt got) ∙ inv

pub heavy_found : (ds : List Decl) (i : ℕ) (d : Decl) (at : Place) (whole : Option Place) → i < length ds → d ≡ get_or ds i d → Some at ≡ first_heavy (decl_of d ∷ [])
    → first_heavy (map decl_of (drop i ds)) ≡ whole → Some at ≡ whole
heavy_found ds i d at whole lt got e inv =
    let rest = first_heavy (map decl_of (drop (i + 1) ds)) in
    ap (λ o. or_else o rest) e ∙ sym (heavy_at ds i d lt got) ∙ inv

pub heavy_over : (ds : List Decl) (i : ℕ) (whole : Option Place) → length ds ≤ i → first_heavy (map decl_of (drop i ds)) ≡ whole → None ≡ whole
heavy_over ds i whole le inv = sym (ap (λ l. first_heavy (map decl_of l)) (drop_all i ds le)) ∙ inv
