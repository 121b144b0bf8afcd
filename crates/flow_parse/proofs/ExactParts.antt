-- Laws by which the next token, and what begins with it, narrow a part.
use Rattle.std.proofs.Common.{◌≡◌, ℕ, zero, suc, ◌<◌, List, [], ◌∷◌, ◌++◌, length, sym, ap, ◌∙◌, subst, arith}
use Rattle.std.specs.declared.option.Option.{Option}
use Rattle.flow_tree.specs.declared.limits.Limits.{Limits}
use Rattle.flow_tree.specs.declared.token.Token.{Token}
use Rattle.flow_tree.specs.declared.token.Spot.{Spot}
use Rattle.flow_tree.specs.GrammarToken.{Part, Marked, begin, AllInLimitsOf}
use Rattle.flow_tree.specs.GrammarStmt.{StartsAt}
use Rattle.flow_parse.specs.Parts.{Placed, Marks}
use Rattle.flow_parse.specs.Failing.{Sees, Never, Only}
use Rattle.flow_parse.proofs.Looking.{Looks, first_of}
use Rattle.flow_parse.proofs.Exact.{sees_looks}
use Rattle.flow_parse.proofs.Begins.{Starts}
use Rattle.flow_exprs.proofs.Fits.{length_begin}

-- a part that is empty where the next token says so
pub nil_only : (limits : Limits) → {A : Type 0} (R : List Marked → A → Type 0) (F : A → List Marked → Type 0) (a : A) (o : Option Token) (ts : List Spot) → first_of ts ≡ o
    → ((w z : List Marked) (b : A) → R w b → F b z → Looks o (w ++ z) → (b ≡ a) × (w ≡ [])) → Only limits R F a 0 ts
nil_only limits R F a o ts e f n j w z b r g lt s =
    let k = f w z b r g (subst (λ x. Looks x (w ++ z)) e (sees_looks limits n j ts (w ++ z) (omega arith) s)) in
    (k.0, ap length k.1)

-- a part that can't begin with the next token
pub none_never : (limits : Limits) → {A : Type 0} (R : List Marked → A → Type 0) (F : A → List Marked → Type 0) (o : Option Token) (n j : ℕ) (ts : List Spot) → 0 < j → first_of ts ≡ o
    → ((w z : List Marked) (b : A) → R w b → F b z → Looks o (w ++ z) → ⊥) → Never limits R F n j ts
none_never limits R F o n j ts h e f w z b r g s = f w z b r g (subst (λ x. Looks x (w ++ z)) e (sees_looks limits n j ts (w ++ z) h s))

-- a part that is marked by another part that begins with it
sees_begin : (limits : Limits) (n j : ℕ) (ts : List Spot) (p : Part) (w z : List Marked) → Sees limits n j ts (begin p w ++ z) → Sees limits n j ts (w ++ z)
sees_begin limits n j ts p [] z s = s
sees_begin limits n zero ts p (x ∷ w) z s = tt
sees_begin limits n (suc j) [] p (x ∷ w) z s = absurd s
sees_begin limits n (suc j) (t ∷ ts) p (x ∷ w) z s = (s.0, s.1.1, s.2)

module _ (limits : Limits) {A : Type 0} (R : List Marked → A → Type 0) (F : A → List Marked → Type 0) (p : Part) where
  pub marks_never : (n j : ℕ) (ts : List Spot) → Never limits R F n j ts → Never limits (Marks p R) F n j ts
  marks_never n j ts f w z b r g s = f r.0 z b r.1 g (sees_begin limits n j ts p r.0 z (subst (λ k. Sees limits n j ts (k ++ z)) r.2 s))

  pub marks_only : (a : A) (i : ℕ) (ts : List Spot) → Only limits R F a i ts → Only limits (Marks p R) F a i ts
  marks_only a i ts f n j w z b r g lt s =
      let k = f n j r.0 z b r.1 g lt (sees_begin limits n j ts p r.0 z (subst (λ k. Sees limits n j ts (k ++ z)) r.2 s)) in
      (k.0, ap length r.2 ∙ length_begin p r.0 ∙ k.1)

  -- no part with this number or of this depth keeps the limit
  pub marks_beyond : (n j : ℕ) (ts : List Spot) → 0 < j → (AllInLimitsOf limits n (p ∷ []) → ⊥) → (P : Token → Type 0) → ((w : List Marked) (b : A) → R w b → Starts P w)
      → Never limits (Marks p R) F n j ts
  marks_beyond n j ts h out P begins w z b r g s = beyond j ts r.0 h (begins r.0 b r.1) (subst (λ k. Sees limits n j ts (k ++ z)) r.2 s)
    where
      beyond : (j : ℕ) (ts : List Spot) (w : List Marked) → 0 < j → Starts P w → Sees limits n j ts (begin p w ++ z) → ⊥
      beyond j ts [] h st s = st
      beyond zero ts (x ∷ w) h st s = absurd (omega arith)
      beyond (suc j) [] (x ∷ w) h st s = s
      beyond (suc j) (t ∷ ts) (x ∷ w) h st s = out (s.1.0, tt)

-- a part with the place of its first token
module _ (limits : Limits) {A : Type 0} (R : List Marked → A → Type 0) (F : A → List Marked → Type 0) where
  pub placed_never : (n j : ℕ) (ts : List Spot) → Never limits R F n j ts → Never limits (Placed R) (λ x. F x.1) n j ts
  placed_never n j ts f w z b r g s = f w z b.1 r.1 g s

  pub placed_only : (a : A) (i : ℕ) (t : Spot) (ts : List Spot) → Only limits R F a i (t ∷ ts) → Only limits (Placed R) (λ x. F x.1) (t.at, a) i (t ∷ ts)
  placed_only a i t ts f n j w z b r g lt s =
      let k = f n j w z b.1 r.1 g lt s in
      (ap (λ y. (b.0, y)) k.0 ∙ ap (λ y. (y, a)) (place_is w j (omega arith) r.0 s), k.1)
    where
      place_is : (w : List Marked) (j : ℕ) → 0 < j → StartsAt w b.0 → Sees limits n j (t ∷ ts) (w ++ z) → b.0 ≡ t.at
      place_is [] j h st s = absurd st
      place_is (x ∷ w) zero h st s = absurd (omega arith)
      place_is (x ∷ w) (suc j) h st s = sym st ∙ ap (λ y. y.at) s.0
