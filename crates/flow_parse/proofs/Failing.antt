-- The laws by which a reader's refusal is exact.
use Rattle.std.proofs.Common.{◌≡◌, ℕ, suc, ◌+◌, ◌-◌, ◌≤◌, ◌<◌, List, [], ◌∷◌, ◌++◌, length, take, drop, refl, sym, ap, ◌∙◌, subst, arith, append_assoc, length-append}
use Rattle.std.specs.declared.option.Option.{Option}
use Rattle.std.specs.declared.option.Option.TheVariants.{Some}
use Rattle.flow_tree.specs.declared.limits.Limits.{Limits}
use Rattle.flow_base.specs.declared.place.Place.{Place}
use Rattle.flow_tree.specs.declared.token.Token.{Token}
use Rattle.flow_tree.specs.declared.token.Spot.{Spot}
use Rattle.flow_tree.specs.GrammarStmt.{StartsAt}
use Rattle.flow_tree.specs.GrammarToken.{Part, Marked, opens, begin, spots_of, InLimitsOf, KeepsOf, GoodOf}
use Rattle.flow_tree.proofs.GrammarLists.{spots_append, keeps_append_of, length_spots}
use Rattle.flow_exprs.proofs.Goes.{nowhere}
use Rattle.flow_parse.specs.Reading.{Tok, Then, Any}
use Rattle.flow_parse.specs.Parts.{Marks, Placed}
use Rattle.flow_parse.specs.Failing.{Never, Only, Stops}
use Rattle.flow_parse.proofs.Begins.{Starts}
use Rattle.flow_parse.proofs.Looking.{Looks, Back, first_of}
use Rattle.flow_parse.proofs.Exact.{never_first, never_then, never_narrow, tok_never}
use Rattle.flow_parse.proofs.ExactParts.{none_never, marks_never, marks_beyond, placed_never}
use Rattle.flow_parse.proofs.Verdict.{fewer}

-- some part of this kind, whatever its tokens are
pub record Inhabited {A : Type 0} (R : List Marked → A → Type 0) : Type 0 where
  pub marked : List Marked
  pub tree : A
  pub rule : R marked tree

drop_front : (w : List Marked) (ts : List Spot) → drop (length w) (spots_of w ++ ts) ≡ ts
drop_front [] ts = refl
drop_front (x ∷ w) ts = drop_front w ts

take_front : (w : List Marked) (k : ℕ) (ts : List Spot) → take (length w + k) (spots_of w ++ ts) ≡ spots_of w ++ take k ts
take_front [] k ts = let e : 0 + k ≡ k = omega arith in ap (λ n. take n ts) e
take_front (x ∷ w) k ts = let e : suc (length w) + k ≡ suc (length w + k) = omega arith in ap (λ n. take n (x.spot ∷ (spots_of w ++ ts))) e ∙ ap (λ y. x.spot ∷ y) (take_front w k ts)

module _ (limits : Limits) {A B : Type 0} (R : List Marked → A → Type 0) (FR : A → List Marked → Type 0) (S : A → List Marked → B → Type 0) (F : A × B → List Marked → Type 0)
    (fol : (a : A) (b : B) (v z : List Marked) → S a v b → F (a, b) z → FR a (v ++ z)) where
  pub good_first : (n : ℕ) (ts : List Spot) → ((a : A) → Inhabited (S a)) → GoodOf limits R n ts → GoodOf limits (Then R S) n ts
  good_first n ts more g =
      let x = more g.tree in
      record {
        read = g.read;
        rest = g.rest ++ x.marked;
        tree = (g.tree, x.tree);
        rule = record { first = g.read ++ g.rest; rest = x.marked; is = sym (append_assoc g.read g.rest x.marked); front = g.rule; back = x.rule };
        is = g.is;
        keeps = g.keeps;
      }

  pub good_then : (n : ℕ) (w : List Marked) (a : A) (ts : List Spot) → R w a → KeepsOf limits n w → GoodOf limits (S a) n ts → GoodOf limits (Then R S) n (spots_of w ++ ts)
  good_then n w a ts r k g =
      record {
        read = w ++ g.read;
        rest = g.rest;
        tree = (a, g.tree);
        rule = record { first = w; rest = g.read ++ g.rest; is = append_assoc w g.read g.rest; front = r; back = g.rule };
        is = spots_append w g.read ∙ ap (λ y. spots_of w ++ y) g.is;
        keeps = keeps_append_of limits n w g.read k g.keeps;
      }

  -- the first part stops
  pub stops_first : (n k : ℕ) (ts : List Spot) → ((a : A) → Inhabited (S a)) → Stops limits R FR n ts k → Stops limits (Then R S) F n ts k
  stops_first n k ts more s = record {
    within = s.within;
    token = s.token;
    bad = never_first limits R FR S F fol n (suc k) ts s.bad;
    good = good_first 7 (take k ts) more s.good;
    below = λ m lt h. good_first m (take (suc k) ts) more (s.below m lt h);
  }

  -- the first part is read, and the second stops
  pub stops_then : (n k : ℕ) (w : List Marked) (a : A) (ts : List Spot) → n ≤ 7 → R w a → KeepsOf limits 7 w → Only limits R FR a (length w) (spots_of w ++ ts)
      → Stops limits (S a) (λ b. F (a, b)) n ts k → Stops limits (Then R S) F n (spots_of w ++ ts) (length w + k)
  stops_then n k w a ts le r keep o s =
      let i = length w in
      let e : suc (i + k) - i ≡ suc k = omega arith in
      let f : i + suc k ≡ suc (i + k) = omega arith in
      record {
        within = omega (arith, s.within, length-append (spots_of w) ts, length_spots w);
        token = λ h. omega (arith, s.token h, length-append (spots_of w) ts, length_spots w);
        bad = never_then limits R FR S F fol n i (suc (i + k)) (spots_of w ++ ts) a (omega arith) o
            (subst (λ j. Never limits (S a) (λ b. F (a, b)) n j (drop i (spots_of w ++ ts))) (sym e) (subst (Never limits (S a) (λ b. F (a, b)) n (suc k)) (sym (drop_front w ts)) s.bad));
        good = subst (GoodOf limits (Then R S) 7) (sym (take_front w k ts)) (good_then 7 w a (take k ts) r keep s.good);
        below = λ m lt h. subst (λ j. GoodOf limits (Then R S) m (take j (spots_of w ++ ts))) f
            (subst (GoodOf limits (Then R S) m) (sym (take_front w (suc k) ts)) (good_then m w a (take (suc k) ts) r (fewer limits m 7 w (omega arith) keep) (s.below m lt h)));
      }

-- a part that is another one by the next token
pub stops_narrow : (limits : Limits) → {B C : Type 0} (V : List Marked → B → Type 0) (FV : B → List Marked → Type 0) (U : List Marked → C → Type 0) (FU : C → List Marked → Type 0) (h : C → B)
    (o : Option Token) (n k : ℕ) (ts : List Spot) → first_of ts ≡ o
    → ((w z : List Marked) (b : B) → V w b → FV b z → Looks o (w ++ z) → Back V FV U FU h w z b) → ((w : List Marked) (c : C) → U w c → V w (h c)) → Stops limits U FU n ts k → Stops limits V FV n ts k
stops_narrow limits V FV U FU h o n k ts e back forth s = record {
  within = s.within;
  token = s.token;
  bad = never_narrow limits V FV U FU h o back n (suc k) ts e (omega arith) s.bad;
  good = good_as (take k ts) 7 s.good;
  below = λ m lt x. good_as (take (suc k) ts) m (s.below m lt x);
}
  where
    good_as : (ts : List Spot) (m : ℕ) → GoodOf limits U m ts → GoodOf limits V m ts
    good_as ts m g = record { read = g.read; rest = g.rest; tree = h g.tree; rule = forth (g.read ++ g.rest) g.tree g.rule; is = g.is; keeps = g.keeps }

-- another token stands here
pub stops_tok : (limits : Limits) (x : Token) (ts : List Spot) → (first_of ts ≡ Some x → ⊥) → Stops limits (Tok x) Any 2 ts 0
stops_tok limits x ts f = record {
  within = omega arith;
  token = λ h. absurd (omega arith);
  bad = tok_never limits x 2 1 ts (omega arith) f;
  good = record { read = []; rest = opens [] x nowhere ∷ []; tree = nowhere; rule = refl; is = refl; keeps = tt };
  below = λ m lt h. absurd (omega arith);
}

-- a part that begins with a marked token
module _ (limits : Limits) {A : Type 0} (R : List Marked → A → Type 0) (F : A → List Marked → Type 0) (p : Part) where
  pub good_marks : (n : ℕ) (ts : List Spot) → InLimitsOf limits n p → GoodOf limits R n ts → GoodOf limits (Marks p R) n ts
  good_marks n ts k g = by_read g.read g.rest g.rule g.is g.keeps
    where
      by_read : (r s : List Marked) → R (r ++ s) g.tree → spots_of r ≡ ts → KeepsOf limits n r → GoodOf limits (Marks p R) n ts
      by_read [] s h e q = record { read = []; rest = begin p s; tree = g.tree; rule = (s, h, refl); is = e; keeps = tt }
      by_read (x ∷ r) s h e q = record { read = begin p (x ∷ r); rest = s; tree = g.tree; rule = (x ∷ (r ++ s), h, refl); is = e; keeps = ((k, q.0), q.1) }

  pub stops_marks : (n k : ℕ) (ts : List Spot) → n ≤ 7 → ((m : ℕ) → m ≤ 7 → InLimitsOf limits m p) → Stops limits R F n ts k → Stops limits (Marks p R) F n ts k
  stops_marks n k ts le keep s = record {
    within = s.within;
    token = s.token;
    bad = marks_never limits R F p n (suc k) ts s.bad;
    good = good_marks 7 (take k ts) (keep 7 (omega arith)) s.good;
    below = λ m lt h. good_marks m (take (suc k) ts) (keep m (omega arith)) (s.below m lt h);
  }

  -- the part can begin here, but not with this number or at this depth
  pub stops_beyond : (n : ℕ) (ts : List Spot) → 0 < length ts → (InLimitsOf limits n p → ⊥) → ((m : ℕ) → m < n → InLimitsOf limits m p) → (P : Token → Type 0)
      → ((w : List Marked) (b : A) → R w b → Starts P w) → Inhabited R → ((m : ℕ) → m < n → GoodOf limits R m (take 1 ts)) → Stops limits (Marks p R) F n ts 0
  stops_beyond n ts some out keep P begins any here = record {
    within = omega arith;
    token = λ h. some;
    bad = marks_beyond limits R F p n 1 ts (omega arith) (λ k. out k.0) P begins;
    good = record { read = []; rest = begin p any.marked; tree = any.tree; rule = (any.marked, any.rule, refl); is = refl; keeps = tt };
    below = λ m lt h. good_marks m (take 1 ts) (keep m lt) (here m lt);
  }

-- no such part begins with the next token
pub stops_none : (limits : Limits) → {A : Type 0} (R : List Marked → A → Type 0) (F : A → List Marked → Type 0) (o : Option Token) (ts : List Spot) → first_of ts ≡ o → Inhabited R
    → ((w z : List Marked) (b : A) → R w b → F b z → Looks o (w ++ z) → ⊥) → Stops limits R F 2 ts 0
stops_none limits R F o ts e any f = record {
  within = omega arith;
  token = λ h. absurd (omega arith);
  bad = none_never limits R F o 2 1 ts (omega arith) e f;
  good = record { read = []; rest = any.marked; tree = any.tree; rule = any.rule; is = refl; keeps = tt };
  below = λ m lt h. absurd (omega arith);
}

-- a part with the place of its first token
module _ (limits : Limits) {A : Type 0} (R : List Marked → A → Type 0) (F : A → List Marked → Type 0) (P : Token → Type 0) (begins : (w : List Marked) (a : A) → R w a → Starts P w) where
  starts_at : (w : List Marked) → Starts P w → (p : Place) × StartsAt w p
  starts_at [] h = absurd h
  starts_at (x ∷ w) h = (x.spot.at, refl)

  good_placed : (n : ℕ) (ts : List Spot) → GoodOf limits R n ts → GoodOf limits (Placed R) n ts
  good_placed n ts g =
      let p = starts_at (g.read ++ g.rest) (begins (g.read ++ g.rest) g.tree g.rule) in
      record { read = g.read; rest = g.rest; tree = (p.0, g.tree); rule = (p.1, g.rule); is = g.is; keeps = g.keeps }

  pub stops_placed : (n k : ℕ) (ts : List Spot) → Stops limits R F n ts k → Stops limits (Placed R) (λ x. F x.1) n ts k
  stops_placed n k ts s = record {
    within = s.within;
    token = s.token;
    bad = placed_never limits R F n (suc k) ts s.bad;
    good = good_placed 7 (take k ts) s.good;
    below = λ m lt h. good_placed m (take (suc k) ts) (s.below m lt h);
  }
