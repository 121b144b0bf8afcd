-- Reading with what no other derivation does: the laws that make a reader's answers exact.
use Rattle.std.proofs.Common.{◌≡◌, ℕ, zero, suc, ◌+◌, ◌-◌, ◌<◌, List, [], ◌∷◌, ◌++◌, length, drop, sym, ap, ◌∙◌, subst, arith, append_assoc, length-append}
use Rattle.flow_tree.specs.declared.limits.Limits.{Limits}
use Rattle.flow_tree.specs.declared.token.Spot.{Spot}
use Rattle.std.specs.declared.option.Option.{Option}
use Rattle.std.specs.declared.option.Option.TheVariants.{None, Some}
use Rattle.flow_base.specs.declared.place.Place.{Place}
use Rattle.flow_tree.specs.declared.token.Token.{Token}
use Rattle.flow_tree.specs.declared.token.Token.TheVariants as token
use Rattle.flow_tree.specs.declared.ty.Ident.{Ident}
use Rattle.flow_tree.specs.GrammarToken.{Part, Marked, opens}
use Rattle.flow_parse.specs.Failing.{Sees, Never, Only}
use Rattle.flow_parse.proofs.Looking.{Looks, first_of, Back}
use Rattle.flow_tree.specs.Grammar.{name_at}
use Rattle.flow_parse.specs.Reading.{Opening, Tok, Named, Then, Any}

pub sees_past : (limits : Limits) (n j : ℕ) (ts : List Spot) (w z : List Marked) → length w < j → Sees limits n j ts (w ++ z) → Sees limits n (j - length w) (drop (length w) ts) z
sees_past limits n (suc j) ts [] z lt s = let e : suc j - 0 ≡ suc j = omega arith in subst (λ k. Sees limits n k ts z) (sym e) s
sees_past limits n (suc j) [] (x ∷ w) z lt s = absurd s
sees_past limits n (suc j) (t ∷ ts) (x ∷ w) z lt s =
    let e : suc j - suc (length w) ≡ j - length w = omega arith in
    subst (λ k. Sees limits n k (drop (length w) ts) z) (sym e) (sees_past limits n j ts w z (omega arith) s.2)
sees_past limits n zero ts w z lt s = absurd (omega arith)

module _ (limits : Limits) {A B : Type 0} (R : List Marked → A → Type 0) (FR : A → List Marked → Type 0) (S : A → List Marked → B → Type 0) (F : A × B → List Marked → Type 0)
    (fol : (a : A) (b : B) (v z : List Marked) → S a v b → F (a, b) z → FR a (v ++ z)) where
  split : (n j : ℕ) (ts : List Spot) (w z : List Marked) (x : A × B) → (r : Then R S w x) → Sees limits n j ts (w ++ z) → Sees limits n j ts (r.first ++ (r.rest ++ z))
  split n j ts w z x r s = subst (λ k. Sees limits n j ts k) (ap (λ k. k ++ z) r.is ∙ append_assoc r.first r.rest z) s

  -- a first part fails
  pub never_first : (n j : ℕ) (ts : List Spot) → Never limits R FR n j ts → Never limits (Then R S) F n j ts
  never_first n j ts f w z x r g s = f r.first (r.rest ++ z) x.0 r.front (fol x.0 x.1 r.rest z r.back g) (split n j ts w z x r s)

  -- a first part is read, and the second fails
  pub never_then : (n i j : ℕ) (ts : List Spot) (a : A) → i < j → Only limits R FR a i ts → Never limits (S a) (λ b. F (a, b)) n (j - i) (drop i ts) → Never limits (Then R S) F n j ts
  never_then n i j ts a lt o f w z x r g s =
      let q = split n j ts w z x r s in
      let k = o n j r.first (r.rest ++ z) x.0 r.front (fol x.0 x.1 r.rest z r.back g) lt q in
      let p = sees_past limits n j ts r.first (r.rest ++ z) (subst (λ m. m < j) (sym k.1) lt) q in
      let p2 = subst (λ m. Sees limits n (j - m) (drop m ts) (r.rest ++ z)) k.1 p in
      f r.rest z x.1 (subst (λ c. S c r.rest x.1) k.0 r.back) (subst (λ c. F (c, x.1) z) k.0 g) p2

  -- both are read
  pub only_then : (i k : ℕ) (ts : List Spot) (a : A) (b : B) → Only limits R FR a i ts → Only limits (S a) (λ c. F (a, c)) b k (drop i ts) → Only limits (Then R S) F (a, b) (i + k) ts
  only_then i k ts a b o p n j w z x r g lt s =
      let q = split n j ts w z x r s in
      let h = o n j r.first (r.rest ++ z) x.0 r.front (fol x.0 x.1 r.rest z r.back g) (omega arith) q in
      let u = sees_past limits n j ts r.first (r.rest ++ z) (subst (λ m. m < j) (sym h.1) (omega arith)) q in
      let u2 = subst (λ m. Sees limits n (j - m) (drop m ts) (r.rest ++ z)) h.1 u in
      let v = p n (j - i) r.rest z x.1 (subst (λ c. S c r.rest x.1) h.0 r.back) (subst (λ c. F (c, x.1) z) h.0 g) (omega arith) u2 in
      (same_pair x a b h.0 v.0, ap length r.is ∙ length-append r.first r.rest ∙ (let e : length r.first + length r.rest ≡ i + k = omega (arith, h.1, v.1) in e))
    where
      same_pair : (x : A × B) (a : A) (b : B) → x.0 ≡ a → x.1 ≡ b → x ≡ (a, b)
      same_pair x a b e f = ap (λ c. (c, x.1)) e ∙ ap (λ c. (a, c)) f

-- the next token is seen
pub sees_looks : (limits : Limits) (n j : ℕ) (ts : List Spot) (m : List Marked) → 0 < j → Sees limits n j ts m → Looks (first_of ts) m
sees_looks limits n zero ts m lt s = absurd (omega arith)
sees_looks limits n (suc j) [] [] lt s = tt
sees_looks limits n (suc j) [] (x ∷ m) lt s = absurd s
sees_looks limits n (suc j) (t ∷ ts) [] lt s = absurd s
sees_looks limits n (suc j) (t ∷ ts) (x ∷ m) lt s = ap (λ y. y.token) s.0

-- where the next token says that a part is another one
module _ (limits : Limits) {B C : Type 0} (V : List Marked → B → Type 0) (FV : B → List Marked → Type 0) (U : List Marked → C → Type 0) (FU : C → List Marked → Type 0) (h : C → B) (o : Option Token)
    (back : (w z : List Marked) (b : B) → V w b → FV b z → Looks o (w ++ z) → Back V FV U FU h w z b) where
  pub never_narrow : (n j : ℕ) (ts : List Spot) → first_of ts ≡ o → 0 < j → Never limits U FU n j ts → Never limits V FV n j ts
  never_narrow n j ts e lt f w z b r g s =
      let k = back w z b r g (subst (λ x. Looks x (w ++ z)) e (sees_looks limits n j ts (w ++ z) lt s)) in
      f w z k.tree k.rule k.follows s

  pub only_narrow : (i : ℕ) (ts : List Spot) (c : C) → first_of ts ≡ o → Only limits U FU c i ts → Only limits V FV (h c) i ts
  only_narrow i ts c e f n j w z b r g lt s =
      let k = back w z b r g (subst (λ x. Looks x (w ++ z)) e (sees_looks limits n j ts (w ++ z) (omega arith) s)) in
      let v = f n j w z k.tree k.rule k.follows lt s in
      (k.is ∙ ap h v.0, v.1)

-- one token
pub tok_never : (limits : Limits) (x : Token) (n j : ℕ) (ts : List Spot) → 0 < j → (first_of ts ≡ Some x → ⊥) → Never limits (Tok x) Any n j ts
tok_never limits x n j ts lt f w z p r g s = f (tok_first x p ts (w ++ z) z (ap (λ k. k ++ z) r) (sees_looks limits n j ts (w ++ z) lt s))
  where
    some_same : (o : Option Token) (y : Token) (z : List Marked) (q : Place) → Looks o (record { spot = record { token = y; at = q }; parts = [] } ∷ z) → o ≡ Some y
    some_same None y z q l = absurd l
    some_same (Some t) y z q l = ap Some (sym l)

    tok_first : (x : Token) (p : Place) (ts : List Spot) (m z : List Marked) → m ≡ opens [] x p ∷ z → Looks (first_of ts) m → first_of ts ≡ Some x
    tok_first x p ts m z e l = some_same (first_of ts) x z p (subst (Looks (first_of ts)) e l)

pub opening_only : (limits : Limits) (ps : List Part) (x : Token) (p : Place) (ts : List Spot) → Only limits (Opening ps x) Any p 1 (record { token = x; at = p } ∷ ts)
opening_only limits ps x p ts n (suc j) w z q r g lt s =
    let s2 = subst (λ k. Sees limits n (suc j) (record { token = x; at = p } ∷ ts) (k ++ z)) r s in
    (ap (λ y. y.at) s2.0, ap length r)
opening_only limits ps x p ts n zero w z q r g lt s = absurd (omega arith)

-- a name is known by its token and its place
pub spot_name : (y x : Ident) → (name_at y).spot ≡ record { token = token.Name x.name; at = x.at } → y ≡ x
spot_name y x e =
    let h : token.Name y.name ≡ token.Name x.name = ap (λ q. q.token) e in
    let f : y.name ≡ x.name = cc in
    let g : y.at ≡ x.at = ap (λ q. q.at) e in
    ap (λ k. record { name = k; at = y.at }) f ∙ ap (λ q. record { name = x.name; at = q }) g

-- a name
pub named_only : (limits : Limits) (x : Ident) (ts : List Spot) → Only limits Named Any x 1 (record { token = token.Name x.name; at = x.at } ∷ ts)
named_only limits x ts n (suc j) w z y r g lt s =
    let s2 = subst (λ k. Sees limits n (suc j) (record { token = token.Name x.name; at = x.at } ∷ ts) (k ++ z)) r s in
    (spot_name y x s2.0, ap length r)
named_only limits x ts n zero w z y r g lt s = absurd (omega arith)
