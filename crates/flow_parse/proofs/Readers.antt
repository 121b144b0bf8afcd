-- What the readers of types and expressions answer is exact.
use Rattle.std.proofs.Common.{◌≡◌, ℕ, zero, suc, ◌-◌, ◌≤◌, ◌<◌, List, [], ◌∷◌, ◌++◌, length, take, drop, refl, sym, ap, ◌∙◌, subst, arith, append_assoc, ◌⊎◌, inl, inr}
use Rattle.std.proofs.lemmas.List.{take-append-drop}
use Rattle.flow_tree.specs.declared.limits.Limits.{Limits}
use Rattle.flow_tree.specs.declared.limits.TheConstants.{OF_PROGRAMS}
use Rattle.flow_tree.specs.declared.token.Spot.{Spot}
use Rattle.flow_tree.specs.declared.token.Tokens.{Tokens}
use Rattle.flow_tree.specs.GrammarToken.{Part, Declaration, Statement, Node, Variable, Branch, Marked, spots_of, InLimitsOf, AllInLimitsOf, KeepsOf, Good, GoodOf, Derives}
use Rattle.flow_tree.specs.GrammarAnswer.{ReadsAll, TooDeep, IsRead, IsMissing, IsTooDeep}
use Rattle.flow_base.specs.declared.place.Place.{Place}
use Rattle.flow_tree.specs.Tree.{ExprTree, VoidExpr}
use Rattle.flow_tree.specs.Grammar.{ExprRule}
use Rattle.flow_exprs.specs.declared.kind.Kind.{Kind}
use Rattle.flow_exprs.specs.declared.kind.Kind.TheVariants as kind
use Rattle.flow_exprs.specs.Kinds.{kind_of}
use Rattle.flow_exprs.specs.Machine.{Top, State, Want, Have, WantArgs, WantName, WantOpen, WantClose, Dead, step_have}
use Rattle.flow_exprs.specs.Answer.{KindStops}
use Rattle.flow_exprs.proofs.Goes.{feed}
use Rattle.flow_exprs.proofs.Complete.{settle, reads, NotOpen}
use Rattle.flow_exprs.proofs.Outcomes.{dead_bad, one_tree}
use Rattle.flow_parse.specs.Follow.{EndsExpr, ExprEnds}
use Rattle.flow_parse.proofs.Nodes.{Nodes, nodes_take, expr_nodes, depth_keeps}
use Rattle.flow_parse.specs.Failing.{Sees, Only, Never}

part_two : (limits : Limits) (p : Part) → InLimitsOf limits 2 p
part_two limits (Declaration k) = λ h. absurd (omega arith)
part_two limits (Statement k) = λ h. absurd (omega arith)
part_two limits (Node k) = λ h. absurd (omega arith)
part_two limits (Variable k) = λ h. absurd (omega arith)
part_two limits (Branch k) = λ h. absurd (omega arith)

pub parts_two : (limits : Limits) (ps : List Part) → AllInLimitsOf limits 2 ps
parts_two limits [] = tt
parts_two limits (p ∷ ps) = (part_two limits p, parts_two limits ps)

-- below L3 there is no limit
pub keeps_two : (limits : Limits) (xs : List Marked) → KeepsOf limits 2 xs
keeps_two limits [] = tt
keeps_two limits (x ∷ xs) = (parts_two limits x.parts, keeps_two limits xs)

take_all : (xs : List Marked) → take (length xs) xs ≡ xs
take_all [] = refl
take_all (x ∷ xs) = ap (λ z. x ∷ z) (take_all xs)

-- what is seen of a marked list
pub sees_take : (limits : Limits) (n j k : ℕ) (ts : List Spot) (w z : List Marked) → k ≤ length w → k ≤ j → Sees limits n j ts (w ++ z)
    → (take k ts ≡ spots_of (take k w)) × KeepsOf limits n (take k w)
sees_take limits n j zero ts w z a b s = (refl, tt)
sees_take limits n zero (suc k) ts w z a b s = absurd (omega arith)
sees_take limits n (suc j) (suc k) ts [] z a b s = absurd (omega arith)
sees_take limits n (suc j) (suc k) [] (x ∷ w) z a b s = absurd s
sees_take limits n (suc j) (suc k) (t ∷ ts) (x ∷ w) z a b s =
    let r = sees_take limits n j k ts w z (omega arith) (omega arith) s.2 in
    (ap (λ y. y ∷ take k ts) (sym s.0) ∙ ap (λ y. x.spot ∷ y) r.0, (s.1, r.1))

-- the token behind a part that is seen
pub record Next (ts : List Spot) (w z : List Marked) : Type 0 where
  pub first : Marked
  pub rest : List Marked
  pub is : z ≡ first ∷ rest
  pub seen : take (suc (length w)) ts ≡ spots_of w ++ first.spot ∷ []

pub sees_next : (limits : Limits) (n j : ℕ) (ts : List Spot) (w z : List Marked) → length w < j → length w < length ts → Sees limits n j ts (w ++ z) → Next ts w z
sees_next limits n zero ts w z a b s = absurd (omega arith)
sees_next limits n (suc j) [] w z a b s = absurd (omega arith)
sees_next limits n (suc j) (t ∷ ts) [] [] a b s = absurd s
sees_next limits n (suc j) (t ∷ ts) [] (y ∷ z) a b s = record { first = y; rest = z; is = refl; seen = ap (λ k. k ∷ []) (sym s.0) }
sees_next limits n (suc j) (t ∷ ts) (x ∷ w) z a b s =
    let r = sees_next limits n j ts w z (omega arith) (omega arith) s.2 in
    record { first = r.first; rest = r.rest; is = r.is; seen = ap (λ y. y ∷ take (suc (length w)) ts) (sym s.0) ∙ ap (λ y. x.spot ∷ y) r.seen }

-- the tokens end where the list does
sees_length : (limits : Limits) (n j : ℕ) (ts : List Spot) (m : List Marked) → length ts < j → Sees limits n j ts m → length m ≡ length ts
sees_length limits n zero ts m a s = absurd (omega arith)
sees_length limits n (suc j) [] [] a s = refl
sees_length limits n (suc j) [] (x ∷ m) a s = absurd s
sees_length limits n (suc j) (t ∷ ts) [] a s = absurd s
sees_length limits n (suc j) (t ∷ ts) (x ∷ m) a s = ap suc (sees_length limits n j ts m (omega arith) s.2)

-- one is below the other, or they are the same
pub three : (a b : ℕ) → (a < b) ⊎ ((b < a) ⊎ (a ≡ b))
three zero zero = inr (inr refl)
three zero (suc b) = inl (omega arith)
three (suc a) zero = inr (inl (omega arith))
three (suc a) (suc b) = elim (three a b) [
  | inl l ↦ inl (omega arith)
  | inr r ↦ elim r [
    | inl l ↦ inr (inl (omega arith))
    | inr e ↦ inr (inr (ap suc e))
  ]
]

module _ (limits : Limits) {A : Type 0} (R : List Marked → A → Type 0) (F : A → List Marked → Type 0)
    (ends : (w : List Marked) (b : A) (y : Marked) (z : List Marked) → R w b → F b (y ∷ z) → Good R 2 (spots_of w ++ y.spot ∷ []) → ⊥) where
  -- what has begun
  begun : (held : Limits) (n k : ℕ) (ts : List Spot) (w : List Marked) (b : A) → R w b → take k ts ≡ spots_of (take k w) → KeepsOf held n (take k w) → GoodOf held R n (take k ts)
  begun held n k ts w b r e h = record { read = take k w; rest = drop k w; tree = b; rule = subst (λ z. R z b) (sym (take-append-drop k w)) r; is = sym e; keeps = h }

  take_read : (k : ℕ) (xs : List Marked) (ts : List Spot) → spots_of xs ≡ ts → spots_of (take k xs) ≡ take k ts
  take_read zero xs ts e = refl
  take_read (suc k) [] ts e = subst (λ z. [] ≡ take (suc k) z) e refl
  take_read (suc k) (x ∷ xs) ts e = ap (λ y. x.spot ∷ y) (take_read k xs (spots_of xs) refl) ∙ ap (take (suc k)) e

  take_take : (k i : ℕ) (ts : List Spot) → k ≤ i → take k (take i ts) ≡ take k ts
  take_take zero i ts h = refl
  take_take (suc k) zero ts h = absurd (omega arith)
  take_take (suc k) (suc i) [] h = refl
  take_take (suc k) (suc i) (t ∷ ts) h = ap (λ y. t ∷ y) (take_take k i ts (omega arith))

  -- of what has begun fewer tokens have
  shorter : (n k i : ℕ) (ts : List Spot) → k ≤ i → Good R n (take i ts) → Good R 2 (take k ts)
  shorter n k i ts h g = record {
    read = take k g.read;
    rest = drop k g.read ++ g.rest;
    tree = g.tree;
    rule = subst (λ z. R z g.tree) (ap (λ z. z ++ g.rest) (sym (take-append-drop k g.read)) ∙ append_assoc (take k g.read) (drop k g.read) g.rest) g.rule;
    is = take_read k g.read (take i ts) g.is ∙ take_take k i ts h;
    keeps = keeps_two OF_PROGRAMS (take k g.read);
  }

  -- no part ends before what has begun does
  not_before : (n m i j : ℕ) (ts : List Spot) (w z : List Marked) (b : A) → R w b → F b z → length w < i → i ≤ length ts → i ≤ j → Good R m (take i ts) → Sees limits n j ts (w ++ z) → ⊥
  not_before n m i j ts w z b r f lt le ij g s =
      let x = sees_next limits n j ts w z (omega arith) (omega arith) s in
      ends w b x.first x.rest r (subst (F b) x.is f) (subst (Good R 2) x.seen (shorter m (suc (length w)) i ts (omega arith) g))

  -- no part goes on behind what can be begun
  not_behind : (n i j : ℕ) (ts : List Spot) (w z : List Marked) (b : A) → R w b → i < length w → i < j → (i < length ts → Good R 2 (take (suc i) ts) → ⊥) → Sees limits n j ts (w ++ z) → ⊥
  not_behind n i j ts w z b r lt ij most s =
      let x = sees_take limits n j (suc i) ts w z (omega arith) (omega arith) s in
      let l : i < length ts = omega (arith, longer n j i ts w z lt ij s) in
      most l (begun OF_PROGRAMS 2 (suc i) ts w b r x.0 (keeps_two OF_PROGRAMS (take (suc i) w)))
    where
      longer : (n j i : ℕ) (ts : List Spot) (w z : List Marked) → i < length w → i < j → Sees limits n j ts (w ++ z) → i < length ts
      longer n zero i ts w z a b s = absurd (omega arith)
      longer n (suc j) i ts [] z a b s = absurd (omega arith)
      longer n (suc j) i [] (x ∷ w) z a b s = absurd s
      longer n (suc j) zero (t ∷ ts) (x ∷ w) z a b s = omega arith
      longer n (suc j) (suc i) (t ∷ ts) (x ∷ w) z a b s = omega (arith, longer n j i ts w z (omega arith) (omega arith) s.2)

  pub reader_only : (one : (n m : ℕ) (toks : List Spot) (a b : A) → Derives R n toks a → Derives R m toks b → a ≡ b) (a : A) (i : ℕ) (ts : List Spot) → ReadsAll R ts i → Derives R 5 (take i ts) a
      → Only limits R F a i ts
  reader_only one a i ts all d n j w z b r f lt s =
      elim (three (length w) i) [
        | inl l ↦ absurd (not_before n 5 i j ts w z b r f l all.within (omega arith) all.good s)
        | inr q ↦ elim q [
          | inl l ↦ absurd (not_behind n i j ts w z b r l lt all.most s)
          | inr e ↦
              let x = sees_take limits n j (length w) ts w z (omega arith) (omega (arith, e)) s in
              let y : spots_of w ≡ take i ts = sym (x.0 ∙ ap spots_of (take_all w)) ∙ ap (λ k. take k ts) e in
              (one 2 5 (take i ts) b a (record { marked = w; rule = r; is = y; keeps = keeps_two OF_PROGRAMS w }) d, e)
        ]
      ]

  pub missing_never : (n count : ℕ) (ts : List Spot) → ReadsAll R ts count → ((b : A) → Derives R 2 (take count ts) b → ⊥) → Never limits R F n (suc count) ts
  missing_never n count ts all nothing w z b r f s =
      elim (three (length w) count) [
        | inl l ↦ not_before n 5 count (suc count) ts w z b r f l all.within (omega arith) all.good s
        | inr q ↦ elim q [
          | inl l ↦ not_behind n count (suc count) ts w z b r l (omega arith) all.most s
          | inr e ↦
              let x = sees_take limits n (suc count) (length w) ts w z (omega arith) (omega (arith, e)) s in
              let y : spots_of w ≡ take count ts = sym (x.0 ∙ ap spots_of (take_all w)) ∙ ap (λ k. take k ts) e in
              nothing b (record { marked = w; rule = r; is = y; keeps = keeps_two OF_PROGRAMS w })
        ]
      ]

  pub deep_never : ((w : List Marked) (b : A) → R w b → Nodes w) → (number : ℕ) (ts : List Spot) → TooDeep R ts number → Never limits R F 5 (suc number) ts
  deep_never nodes number ts d w z b r f s =
      elim (three (length w) (suc number)) [
        | inl l ↦ not_before 5 2 (suc number) (suc number) ts w z b r f l (omega (arith, d.within)) (omega arith) d.read s
        | inr q ↦
            let le : suc number ≤ length w = or_more q in
            let x = sees_take limits 5 (suc number) (suc number) ts w z le (omega arith) s in
            d.deep (begun OF_PROGRAMS 5 (suc number) ts w b r x.0 (depth_keeps limits OF_PROGRAMS 5 (take (suc number) w) (nodes_take (suc number) w (nodes w b r)) (λ l. x.1)))
      ]
    where
      or_more : {a b : ℕ} → (b < a) ⊎ (a ≡ b) → b ≤ a
      or_more (inl l) = omega arith
      or_more (inr e) = omega (arith, e)

kind_ends : (b : ExprTree) (d : ℕ) (k : Kind) → EndsExpr k → step_have b (Top d) k ≡ Dead
kind_ends b d kind.Close e = refl
kind_ends b d kind.Comma e = refl
kind_ends b d kind.CloseSquare e = refl
kind_ends b d kind.Other e = refl
kind_ends b d kind.Leaf e = absurd e
kind_ends b d kind.Name e = absurd e
kind_ends b d kind.Void e = absurd e
kind_ends b d kind.Open e = absurd e
kind_ends b d kind.Dot e = absurd e
kind_ends b d kind.OpenSquare e = absurd e
kind_ends b d kind.Not e = absurd e
kind_ends b d (kind.Op op) e = absurd e

kind_stops : (k : Kind) → EndsExpr k → NotOpen k × KindStops 1 VoidExpr k
kind_stops kind.Close e = (tt, tt)
kind_stops kind.Comma e = (tt, tt)
kind_stops kind.CloseSquare e = (tt, tt)
kind_stops kind.Other e = (tt, tt)
kind_stops kind.Leaf e = absurd e
kind_stops kind.Name e = absurd e
kind_stops kind.Void e = absurd e
kind_stops kind.Open e = absurd e
kind_stops kind.Dot e = absurd e
kind_stops kind.OpenSquare e = absurd e
kind_stops kind.Not e = absurd e
kind_stops (kind.Op op) e = absurd e

settled_dead : (S : State) → settle S ≡ Dead → S ≡ Dead
settled_dead (Want K) e = absurd (cc)
settled_dead (Have t K) e = absurd (cc)
settled_dead (WantArgs h K) e = absurd (cc)
settled_dead (WantName t K) e = absurd (cc)
settled_dead (WantOpen K) e = absurd (cc)
settled_dead (WantClose K) e = absurd (cc)
settled_dead Dead e = refl

-- behind an expression no expression goes on with such a token
pub expr_ends : (d : ℕ) (w : List Marked) (b : ExprTree) (y : Marked) (z : List Marked) → ExprRule 0 d w b → ExprEnds b (y ∷ z) → Good (ExprRule 0 d) 2 (spots_of w ++ y.spot ∷ []) → ⊥
expr_ends d w b y z r e g =
    let k = kind_of y.spot.token in
    let s = reads r (Top d) (y.spot ∷ []) tt (kind_stops k e) ∙ ap settle (kind_ends b d k e) in
    dead_bad d 2 (spots_of w ++ y.spot ∷ []) (settled_dead (feed (Want (Top d)) (spots_of w ++ y.spot ∷ [])) s) g

module _ (limits : Limits) (t : Tokens) (from d : ℕ) where
  pub expr_only : (a : ExprTree) (to : ℕ) → IsRead (ExprRule 0 d) t from a to → Only limits (ExprRule 0 d) ExprEnds a (to - from) (drop from t.spots.items)
  expr_only a to r = reader_only limits (ExprRule 0 d) ExprEnds (expr_ends d) (one_tree d) a (to - from) (drop from t.spots.items) r.reads r.derived

  pub expr_missing : (n : ℕ) (at : Place) → (r : IsMissing (ExprRule 0 d) t from at) → Never limits (ExprRule 0 d) ExprEnds n (suc r.count) (drop from t.spots.items)
  expr_missing n at r = missing_never limits (ExprRule 0 d) ExprEnds (expr_ends d) n r.count (drop from t.spots.items) r.reads r.nothing

  pub expr_deep : (at : Place) → (r : IsTooDeep (ExprRule 0 d) t from at) → Never limits (ExprRule 0 d) ExprEnds 5 (suc r.number) (drop from t.spots.items)
  expr_deep at r = deep_never limits (ExprRule 0 d) ExprEnds (expr_ends d) (λ w b r. expr_nodes r) r.number (drop from t.spots.items) r.deep
