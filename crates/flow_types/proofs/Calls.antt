-- What fails in calls, from what their parts answer.
use Rattle.std.proofs.Common.{◌≡◌, ℕ, suc, ◌+◌, ◌-◌, ◌<◌, ◌≤◌, Bool, false, List, [], ◌∷◌, length, drop, take, get_or, refl, sym, ap, ap₂, ◌∙◌, arith}
use Rattle.std.specs.declared.option.Option.{Option}
use Rattle.std.specs.declared.option.Option.TheVariants.{None, Some}
use Rattle.flow_tree.specs.declared.ty.Ident.{Ident}
use Rattle.flow_tree.specs.declared.expr.Op.{Op}
use Rattle.flow_tree.specs.Tree.{TypeTree, ExprTree, ExprTrees}
use Rattle.flow_tree.specs.Body.{ChangeTree}
use Rattle.flow_ast.specs.Typing.{with_type}
use Rattle.flow_rules.specs.declared.rule.SemanticRule.{SemanticRule}
use Rattle.flow_rules.specs.Least.{lesser}
use Rattle.flow_rules.specs.Judged.{Setting, Need, Callee, placed, said, calls, calls_on, called, called_on, needs_of, field_form, of_field, operands, form, fault, faults, wants}
use Rattle.flow_rules.specs.Items.{path_form, path_fault, base_form, base_fault, ends_of, call_by_name, call_on, call_fault, target_form, target_fault, change_fault, modify_fault}
use Rattle.flow_types.proofs.Steps.{path_step, fault_step}

pub call_is : (s : Setting) (whole : Bool) (f : List ℕ) (es : ExprTrees) (c : Option Callee) (ns : List Need) (judged r : Option SemanticRule) → c ≡ called s f → ns ≡ needs_of c → judged ≡ faults s 0 ns es
    → r ≡ lesser judged (calls es c (placed s whole)) → r ≡ lesser (faults s 0 (needs_of (called s f)) es) (calls es (called s f) (placed s whole))
call_is s whole f es c ns judged r hc hn hj hr =
    hr ∙ ap (λ j. lesser j (calls es c (placed s whole))) (hj ∙ ap (λ n. faults s 0 n es) hn) ∙ ap (λ k. lesser (faults s 0 (needs_of k) es) (calls es k (placed s whole))) hc

-- what stands behind a base: a method, or an index
pub method_is : (s : Setting) (t : Option TypeTree) (f : Option TypeTree → Option Callee) (es : ExprTrees) (c : Option Callee) (ns : List Need) (b judged r e : Option SemanticRule) (u : Option TypeTree) → t ≡ u → b ≡ e
    → c ≡ f t → ns ≡ needs_of c
    → judged ≡ faults s 0 ns es → r ≡ lesser b (lesser judged (calls_on t es c (placed s false)))
    → r ≡ lesser e (lesser (faults s 0 (needs_of (f u)) es) (calls_on u es (f u) (placed s false)))
method_is s t f es c ns b judged r e u ht hb hc hn hj hr =
    hr ∙ ap₂ (λ x j. lesser x (lesser j (calls_on t es c (placed s false)))) hb (hj ∙ ap (λ n. faults s 0 n es) hn)
    ∙ ap (λ k. lesser e (lesser (faults s 0 (needs_of k) es) (calls_on t es k (placed s false)))) hc
    ∙ ap (λ v. lesser e (lesser (faults s 0 (needs_of (f v)) es) (calls_on v es (f v) (placed s false)))) ht

-- an operand of which a type is wanted
pub wanted_is : (u : TypeTree) (a w r x : Option SemanticRule) (t v : Option TypeTree) → a ≡ x → t ≡ v → w ≡ wants t u → r ≡ lesser a w → r ≡ lesser x (wants v u)
wanted_is u a w r x t v ha ht hw hr = hr ∙ ap₂ lesser ha (hw ∙ ap (λ o. wants o u) ht)

-- a target that is changed
pub modified_is : (s : Setting) (xs ys : List Ident) (d : ChangeTree) (t : Option TypeTree) (a b r : Option SemanticRule) → xs ≡ ys → t ≡ target_form s xs
    → a ≡ target_fault s xs → b ≡ change_fault s t d → r ≡ lesser a b → r ≡ modify_fault s ys d
modified_is s xs ys d t a b r e ht ha hb hr = hr ∙ ap₂ lesser ha (hb ∙ ap (λ o. change_fault s o d) ht) ∙ ap (λ l. modify_fault s l d) e

pub sign_is : (op : Op) (a b r x y : Option SemanticRule) (t u v w : Option TypeTree) → a ≡ x → b ≡ y → t ≡ v → u ≡ w → r ≡ lesser (lesser a b) (operands op t u) → r ≡ lesser (lesser x y) (operands op v w)
sign_is op a b r x y t u v w ha hb ht hu hr = hr ∙ ap₂ (λ m n. lesser (lesser m n) (operands op t u)) ha hb ∙ ap₂ (λ m n. lesser (lesser x y) (operands op m n)) ht hu

pub named_is : (s : Setting) (f : List ℕ) (es : ExprTrees) (c : Option Callee) (ns : List Need) (judged own r : Option SemanticRule) → c ≡ called s f → ns ≡ needs_of c → judged ≡ faults s 0 ns es
    → own ≡ calls es c (said s) → r ≡ lesser judged own → r ≡ call_by_name s f es
named_is s f es c ns judged own r hc hn hj ho hr =
    hr ∙ ap₂ (λ j k. lesser j k) (hj ∙ ap (λ n. faults s 0 n es) hn) ho ∙ ap (λ k. lesser (faults s 0 (needs_of k) es) (calls es k (said s))) hc

pub called_is : (s : Setting) (base : List Ident) (m : List ℕ) (es : ExprTrees) (t : Option TypeTree) (c : Option Callee) (ns : List Need) (b judged own rest r : Option SemanticRule) → t ≡ base_form s base
    → b ≡ base_fault s base
    → c ≡ called_on t m → ns ≡ needs_of c → judged ≡ faults s 0 ns es → own ≡ calls es c (said s) → rest ≡ lesser judged own → r ≡ lesser b rest → r ≡ call_on s base m es
called_is s base m es t c ns b judged own rest r ht hb hc hn hj ho hrest hr =
    hr ∙ ap₂ lesser hb (hrest ∙ ap₂ lesser (hj ∙ ap (λ n. faults s 0 n es) hn) ho ∙ ap (λ k. lesser (faults s 0 (needs_of k) es) (calls es k (said s))) (hc ∙ ap (λ v. called_on v m) ht))

-- one more name on a path, both its type and what fails
pub both_step : (s : Setting) (xs : List Ident) (i : ℕ) (x : Ident) (t u total : Option TypeTree) (acc new sum : Option SemanticRule) → i < length xs → x ≡ get_or xs i x
    → u ≡ with_type t (λ v. field_form s v x.name) → new ≡ lesser acc (of_field s t x.name)
    → (path_form s t (drop i xs) ≡ total) × (lesser acc (path_fault s t (drop i xs)) ≡ sum)
    → (path_form s u (drop (i + 1) xs) ≡ total) × (lesser new (path_fault s u (drop (i + 1) xs)) ≡ sum)
both_step s xs i x t u total acc new sum lt at is n h = (path_step s xs i x t u total lt at is h.0, fault_step s xs i x t u acc new sum lt at is n h.1)

-- a call by a path: a name alone, or a method behind others
pub one_name : (s : Setting) (xs : List Ident) (x : Ident) (es : ExprTrees) → length xs ≡ 1 → x ≡ get_or xs 0 x → call_by_name s x.name es ≡ call_fault s xs es
one_name s [] x es len at = absurd (omega (arith, len))
one_name s (y ∷ []) x es len at = ap (λ (z : Ident). call_by_name s z.name es) at
one_name s (y ∷ (z ∷ zs)) x es len at = absurd (omega (arith, len))

ends_are : (x : Ident) (xs : List Ident) (n : Ident) → n ≡ get_or (x ∷ xs) (length xs) n → ((ends_of x xs).0 ≡ take (length xs) (x ∷ xs)) × ((ends_of x xs).1 ≡ n)
ends_are x [] n at = (refl, sym at)
ends_are x (y ∷ ys) n at = let r = ends_are y ys n at in (ap (λ l. x ∷ l) r.0, r.1)

pub more_names : (s : Setting) (xs base : List Ident) (n : Ident) (i : ℕ) (es : ExprTrees) → 1 < length xs → i ≡ length xs - 1 → base ≡ take i xs → n ≡ get_or xs i n
    → call_on s base n.name es ≡ call_fault s xs es
more_names s [] base n i es lt is b at = absurd (omega (arith, lt))
more_names s (x ∷ []) base n i es lt is b at = absurd (omega (arith, lt))
more_names s (x ∷ (y ∷ ys)) base n i es lt is b at =
    let count : i ≡ length (y ∷ ys) = omega (arith, is) in
    let r = ends_are x (y ∷ ys) n (at ∙ ap (λ k. get_or (x ∷ (y ∷ ys)) k n) count) in
    ap₂ (λ l (z : Ident). call_on s l z.name es) (b ∙ ap (λ k. take k (x ∷ (y ∷ ys))) count ∙ sym r.0) (sym r.1)
