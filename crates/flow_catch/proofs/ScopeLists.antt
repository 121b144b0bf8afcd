-- Scopes as lists of entries in the order of declaration.
use Rattle.std.proofs.Common.{◌≡◌, ℕ, zero, suc, ◌+◌, ◌<◌, ◌≤◌, ◌-◌, List, [], ◌∷◌, ◌++◌, length, take, map, reverse, get_or, refl, sym, ap, ap₂, ◌∙◌, append_assoc, arith}
use Rattle.std.proofs.lemmas.List.{take_more, take_all, map-append, reverse-append}
use Rattle.flow_class.specs.Scopes.{Local, Mark, Var, Scope, scope, outside, find}
use Rattle.flow_catch.specs.declared.entry.Entry.{Entry}
use Rattle.flow_catch.specs.declared.entry.Entry.TheVariants as code
use Rattle.flow_catch.specs.Inner.{entry_of, scope_of, inner_locals, listed, left_lists}

-- one more entry
pub scope_push : (es : List Entry) (e : Entry) → scope_of (es ++ e ∷ []) ≡ entry_of e ∷ scope_of es
scope_push es e = ap reverse (map-append entry_of es (e ∷ [])) ∙ reverse-append (map entry_of es) (entry_of e ∷ [])

pub scope_more : (es : List Entry) (i : ℕ) (e : Entry) → i < length es → e ≡ get_or es i e → scope_of (take (i + 1) es) ≡ entry_of e ∷ scope_of (take i es)
scope_more es i e lt h =
    ap scope_of (take_more es i e lt) ∙ scope_push (take i es) (get_or es i e) ∙ ap (λ x. entry_of x ∷ scope_of (take i es)) (sym h)

-- the entry is a mark, or a local
pub mark_more : (es : List Entry) (i : ℕ) (e : Entry) → i < length es → e ≡ get_or es i e → e ≡ code.Mark → scope_of (take (i + 1) es) ≡ Mark ∷ scope_of (take i es)
mark_more es i e lt h m = scope_more es i e lt h ∙ ap (λ x. entry_of x ∷ scope_of (take i es)) m

pub var_more : (es : List Entry) (i : ℕ) (e : Entry) (x : List ℕ) (n : ℕ) → i < length es → e ≡ get_or es i e → e ≡ code.Var x n → scope_of (take (i + 1) es) ≡ Var x n ∷ scope_of (take i es)
var_more es i e x n lt h m = scope_more es i e lt h ∙ ap (λ y. entry_of y ∷ scope_of (take i es)) m

-- no scope has no locals
pub none_inner : (d : ℕ) → inner_locals d [] ≡ []
none_inner zero = refl
none_inner (suc d) = none_inner d

-- one scope more
less : (d i : ℕ) → i < d → d - i ≡ suc (d - (i + 1))
less d i lt = omega arith

pub inner_next : (d i : ℕ) (s : Scope) → i < d → inner_locals (d - i) s ≡ scope s ++ inner_locals (d - (i + 1)) (outside s)
inner_next d i s lt = ap (λ n. inner_locals n s) (less d i lt)

listed_append : (ns : List ℕ) (ls : List (List ℕ)) → listed ns ls ≡ listed ns [] ++ ls
listed_append [] ls = refl
listed_append (n ∷ ns) ls = refl

pub left_next : (d i : ℕ) (s : Scope) → i < d → left_lists (d - i) s ≡ listed (scope s) [] ++ left_lists (d - (i + 1)) (outside s)
left_next d i s lt = ap (λ n. left_lists n s) (less d i lt) ∙ listed_append (scope s) (left_lists (d - (i + 1)) (outside s))

pub inner_step : (d i : ℕ) (s t : Scope) (old found new : List ℕ) (all : List ℕ) → i < d → found ≡ scope s → t ≡ outside s → new ≡ old ++ found
    → old ++ inner_locals (d - i) s ≡ all → new ++ inner_locals (d - (i + 1)) t ≡ all
inner_step d i s t old found new all lt f o n h =
    ap₂ (λ x y. x ++ inner_locals (d - (i + 1)) y) (n ∙ ap (λ x. old ++ x) f) o
    ∙ append_assoc old (scope s) (inner_locals (d - (i + 1)) (outside s)) ∙ ap (λ x. old ++ x) (sym (inner_next d i s lt)) ∙ h

pub left_step : (d i : ℕ) (s t : Scope) (found : List ℕ) (old new all : List (List ℕ)) → i < d → found ≡ scope s → t ≡ outside s → new ≡ old ++ listed found []
    → old ++ left_lists (d - i) s ≡ all → new ++ left_lists (d - (i + 1)) t ≡ all
left_step d i s t found old new all lt f o n h =
    ap₂ (λ x y. x ++ left_lists (d - (i + 1)) y) (n ∙ ap (λ x. old ++ listed x []) f) o
    ∙ append_assoc old (listed (scope s) []) (left_lists (d - (i + 1)) (outside s)) ∙ ap (λ x. old ++ x) (sym (left_next d i s lt)) ∙ h
