-- One more statement of a body, one more branch, one more argument, one more name.
use Rattle.std.proofs.Common.{◌≡◌, ℕ, zero, suc, ◌+◌, ◌<◌, ◌≤◌, Bool, false, List, [], ◌∷◌, length, map, drop, get_or, slice_get, refl, sym, ap, ap₂, ◌∙◌, arith, add-one}
use Rattle.std.specs.Option.{option_map}
use Rattle.std.specs.declared.option.Option.{Option}
use Rattle.std.specs.declared.option.Option.TheVariants.{None, Some}
use Rattle.flow_tree.specs.declared.ty.Ident.{Ident}
use Rattle.flow_tree.specs.declared.expr.Expr.{Expr}
use Rattle.flow_tree.specs.declared.stmt.Stmt.{Stmt}
use Rattle.flow_tree.specs.declared.stmt.When.{When}
use Rattle.flow_tree.specs.Tree.{TypeTree}
use Rattle.flow_tree.specs.Body.{Body, Branches}
use Rattle.flow_tree.specs.View.{expr_of, exprs_of}
use Rattle.flow_tree.specs.StmtView.{stmt_of, body_of, branch_of, branches_of}
use Rattle.flow_ast.specs.Typing.{with_type}
use Rattle.flow_rules.specs.declared.rule.SemanticRule.{SemanticRule}
use Rattle.flow_rules.specs.Least.{lesser}
use Rattle.flow_rules.specs.Judged.{Setting, Need, fault, faults, form, fits, field_form, of_field}
use Rattle.flow_rules.specs.Items.{path_form, path_fault}
use Rattle.flow_rules.specs.Closing.{Ways, and_then, either, ways, branch_ways}
use Rattle.flow_rules.proofs.Lesser.{lesser_none, lesser_assoc}
use Rattle.flow_types.proofs.ClosingLaws.{and_then_assoc, and_then_past, either_assoc, either_nowhere}

drop_at : {A : Type 0} (xs : List A) (i : ℕ) (d : A) → i < length xs → drop i xs ≡ get_or xs i d ∷ drop (suc i) xs
drop_at [] i d lt = absurd (omega arith)
drop_at (x ∷ xs) zero d lt = refl
drop_at (x ∷ xs) (suc i) d lt = let m : i < length xs = omega arith in drop_at xs i d m

pub drop_more : {A : Type 0} (xs : List A) (i : ℕ) (x : A) → i < length xs → x ≡ get_or xs i x → drop i xs ≡ x ∷ drop (i + 1) xs
drop_more xs i x lt e = rw add-one (drop_at xs i x lt ∙ ap (λ y. y ∷ drop (suc i) xs) (sym e))

pub drop_all : {A : Type 0} (xs : List A) (i : ℕ) → length xs ≤ i → drop i xs ≡ []
drop_all [] zero le = refl
drop_all [] (suc i) le = refl
drop_all (x ∷ xs) zero le = absurd (omega arith)
drop_all (x ∷ xs) (suc i) le = let m : length xs ≤ i = omega arith in drop_all xs i m

-- how a body is left
pub ways_step : (ss : List Stmt) (i : ℕ) (s : Stmt) (acc w new total : Ways) → i < length ss → s ≡ get_or ss i s → ((k : Body) → ways (stmt_of s k) ≡ and_then w (ways k))
    → new ≡ and_then acc w → and_then acc (ways (body_of (drop i ss))) ≡ total → and_then new (ways (body_of (drop (i + 1) ss))) ≡ total
ways_step ss i s acc w new total lt e own n h =
    ap (λ x. and_then x (ways (body_of (drop (i + 1) ss)))) n ∙ and_then_assoc acc w (ways (body_of (drop (i + 1) ss)))
    ∙ ap (λ x. and_then acc x) (sym (own (body_of (drop (i + 1) ss)))) ∙ ap (λ l. and_then acc (ways (body_of l))) (sym (drop_more ss i s lt e)) ∙ h

pub ways_end : (ss : List Stmt) (i : ℕ) (acc total : Ways) → length ss ≤ i → and_then acc (ways (body_of (drop i ss))) ≡ total → acc ≡ total
ways_end ss i acc total le h = sym (and_then_past acc) ∙ ap (λ l. and_then acc (ways (body_of l))) (sym (drop_all ss i le)) ∙ h

-- one more branch
pub branch_step : (ss : List When) (i : ℕ) (s : When) (acc w new total : Ways) → i < length ss → s ≡ get_or ss i s → ((k : Branches) → branch_ways (branch_of s k) ≡ either w (branch_ways k))
    → new ≡ either acc w → either acc (branch_ways (branches_of (drop i ss))) ≡ total → either new (branch_ways (branches_of (drop (i + 1) ss))) ≡ total
branch_step ss i s acc w new total lt e own n h =
    ap (λ x. either x (branch_ways (branches_of (drop (i + 1) ss)))) n ∙ either_assoc acc w (branch_ways (branches_of (drop (i + 1) ss)))
    ∙ ap (λ x. either acc x) (sym (own (branches_of (drop (i + 1) ss)))) ∙ ap (λ l. either acc (branch_ways (branches_of l))) (sym (drop_more ss i s lt e)) ∙ h

pub branch_end : (ss : List When) (i : ℕ) (acc total : Ways) → length ss ≤ i → either acc (branch_ways (branches_of (drop i ss))) ≡ total → acc ≡ total
branch_end ss i acc total le h = sym (either_nowhere acc) ∙ ap (λ l. either acc (branch_ways (branches_of l))) (sym (drop_all ss i le)) ∙ h

-- one more argument
pub args_step : (s : Setting) (ns : List Need) (es : List Expr) (i : ℕ) (e : Expr) (acc own total : Option SemanticRule) → i < length es → e ≡ get_or es i e
    → own ≡ lesser (fault s false (expr_of e)) (fits (form s (expr_of e)) (slice_get ns i)) → lesser acc (faults s i ns (exprs_of (drop i es))) ≡ total
    → lesser (lesser acc own) (faults s (i + 1) ns (exprs_of (drop (i + 1) es))) ≡ total
args_step s ns es i e acc own total lt at is h =
    let rest = exprs_of (drop (i + 1) es) in
    let k : faults s (i + 1) ns rest ≡ faults s (suc i) ns rest = ap (λ j. faults s j ns rest) (add-one i) in
    ap (λ x. lesser (lesser acc x) (faults s (i + 1) ns rest)) is
    ∙ lesser_assoc acc _ (faults s (i + 1) ns rest)
    ∙ ap (λ x. lesser acc (lesser (lesser (fault s false (expr_of e)) (fits (form s (expr_of e)) (slice_get ns i))) x)) k
    ∙ ap (λ l. lesser acc (faults s i ns (exprs_of l))) (sym (drop_more es i e lt at)) ∙ h

pub args_end : (s : Setting) (ns : List Need) (es : List Expr) (i : ℕ) (acc total : Option SemanticRule) → length es ≤ i → lesser acc (faults s i ns (exprs_of (drop i es))) ≡ total → acc ≡ total
args_end s ns es i acc total le h = sym (lesser_none acc) ∙ ap (λ l. lesser acc (faults s i ns (exprs_of l))) (sym (drop_all es i le)) ∙ h

-- one more name on a path
path_more : (s : Setting) (t : Option TypeTree) (x : Ident) (xs : List Ident) → path_form s (with_type t (λ u. field_form s u x.name)) xs ≡ path_form s t (x ∷ xs)
path_more s None x [] = refl
path_more s None x (y ∷ ys) = refl
path_more s (Some t) x xs = refl

pub path_step : (s : Setting) (xs : List Ident) (i : ℕ) (x : Ident) (t u total : Option TypeTree) → i < length xs → x ≡ get_or xs i x
    → u ≡ with_type t (λ v. field_form s v x.name) → path_form s t (drop i xs) ≡ total → path_form s u (drop (i + 1) xs) ≡ total
path_step s xs i x t u total lt at is h =
    ap (λ v. path_form s v (drop (i + 1) xs)) is ∙ path_more s t x (drop (i + 1) xs) ∙ ap (λ l. path_form s t l) (sym (drop_more xs i x lt at)) ∙ h

fault_more : (s : Setting) (t : Option TypeTree) (x : Ident) (xs : List Ident)
    → lesser (of_field s t x.name) (path_fault s (with_type t (λ u. field_form s u x.name)) xs) ≡ path_fault s t (x ∷ xs)
fault_more s None x [] = refl
fault_more s None x (y ∷ ys) = refl
fault_more s (Some t) x xs = refl

pub fault_step : (s : Setting) (xs : List Ident) (i : ℕ) (x : Ident) (t u : Option TypeTree) (acc new total : Option SemanticRule) → i < length xs → x ≡ get_or xs i x
    → u ≡ with_type t (λ v. field_form s v x.name) → new ≡ lesser acc (of_field s t x.name)
    → lesser acc (path_fault s t (drop i xs)) ≡ total → lesser new (path_fault s u (drop (i + 1) xs)) ≡ total
fault_step s xs i x t u acc new total lt at is n h =
    ap₂ (λ a v. lesser a (path_fault s v (drop (i + 1) xs))) n is ∙ lesser_assoc acc (of_field s t x.name) (path_fault s (with_type t (λ v. field_form s v x.name)) (drop (i + 1) xs))
    ∙ ap (λ z. lesser acc z) (fault_more s t x (drop (i + 1) xs)) ∙ ap (λ l. lesser acc (path_fault s t l)) (sym (drop_more xs i x lt at)) ∙ h

pub path_end : (s : Setting) (xs : List Ident) (i : ℕ) (t total : Option TypeTree) → length xs ≤ i → path_form s t (drop i xs) ≡ total → t ≡ total
path_end s xs i t total le h = ap (λ l. path_form s t l) (sym (drop_all xs i le)) ∙ h

pub fault_end : (s : Setting) (xs : List Ident) (i : ℕ) (t : Option TypeTree) (acc total : Option SemanticRule) → length xs ≤ i → lesser acc (path_fault s t (drop i xs)) ≡ total → acc ≡ total
fault_end s xs i t acc total le h = sym (lesser_none acc) ∙ ap (λ l. lesser acc (path_fault s t l)) (sym (drop_all xs i le)) ∙ h
