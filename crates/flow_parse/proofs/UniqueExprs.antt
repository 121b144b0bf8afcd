-- Tokens have one meaning as an expression.
use Rattle.std.proofs.Common.{◌≡◌, ℕ, zero, suc, ◌≤◌, ◌<◌, List, [], ◌∷◌, ◌++◌, length, take, drop, refl, sym, ap, ◌∙◌, subst, arith, length-append, inl, inr}
use Rattle.std.proofs.lemmas.List.{take-append-drop}
use Rattle.flow_tree.specs.declared.limits.TheConstants.{OF_PROGRAMS}
use Rattle.flow_tree.specs.GrammarToken.{Marked, spots_of}
use Rattle.flow_tree.proofs.GrammarLists.{length_spots}
use Rattle.flow_tree.specs.Tree.{ExprTree}
use Rattle.flow_tree.specs.Grammar.{ExprRule}
use Rattle.flow_exprs.proofs.Outcomes.{one_tree}
use Rattle.flow_parse.specs.Follow.{ExprEnds}
use Rattle.flow_parse.proofs.Unique.{Uniq}
use Rattle.flow_parse.proofs.Readers.{three, keeps_two, expr_ends}

spots_within : (n : ℕ) (v u : List Marked) → n ≤ length v → spots_of (take n v) ≡ take n (spots_of (v ++ u))
spots_within zero v u h = refl
spots_within (suc n) [] u h = absurd (omega arith)
spots_within (suc n) (x ∷ v) u h = ap (λ y. x.spot ∷ y) (spots_within n v u (omega arith))

next_take : (w : List Marked) (y : Marked) (z : List Marked) → take (suc (length w)) (spots_of (w ++ y ∷ z)) ≡ spots_of w ++ y.spot ∷ []
next_take [] y z = refl
next_take (x ∷ w) y z = ap (λ k. x.spot ∷ k) (next_take w y z)

front_take : (w z : List Marked) → take (length w) (spots_of (w ++ z)) ≡ spots_of w
front_take [] z = refl
front_take (x ∷ w) z = ap (λ k. x.spot ∷ k) (front_take w z)

-- no expression goes on where another ends
no_longer : (d : ℕ) (w z v u : List Marked) (a b : ExprTree) → ExprRule 0 d w a → ExprEnds a z → ExprRule 0 d v b → spots_of (w ++ z) ≡ spots_of (v ++ u) → length w < length v → ⊥
no_longer d w [] v u a b r f s e lt = absurd (omega (arith, sym (length_spots (w ++ [])) ∙ ap length e ∙ length_spots (v ++ u), length-append w [], length-append v u))
no_longer d w (y ∷ z) v u a b r f s e lt =
    let n = suc (length w) in
    expr_ends d w a y z r f (record {
      read = take n v;
      rest = drop n v;
      tree = b;
      rule = subst (λ k. ExprRule 0 d k b) (sym (take-append-drop n v)) s;
      is = spots_within n v u (omega arith) ∙ ap (take n) (sym e) ∙ next_take w y z;
      keeps = keeps_two OF_PROGRAMS (take n v);
    })

pub uniq_expr : (d k : ℕ) → Uniq k (ExprRule 0 d) ExprEnds
uniq_expr d k w z v u a b lt r f s g e = elim (three (length w) (length v)) [
  | inl l ↦ absurd (no_longer d w z v u a b r f s e l)
  | inr q ↦ elim q [
    | inl l ↦ absurd (no_longer d v u w z b a s g r (sym e) l)
    | inr l ↦
        let same : spots_of v ≡ spots_of w = sym (front_take v u) ∙ ap (take (length v)) (sym e) ∙ ap (λ n. take n (spots_of (w ++ z))) (sym l) ∙ front_take w z in
        (one_tree d 2 2 (spots_of w) a b (record { marked = w; rule = r; is = refl; keeps = keeps_two OF_PROGRAMS w }) (record { marked = v; rule = s; is = same; keeps = keeps_two OF_PROGRAMS v }), l)
  ]
]
