-- From the reading of a class text to what it is, or where it fails.
use Rattle.std.proofs.Common.{◌≡◌, ℕ, zero, suc, ◌+◌, ◌≤◌, List, [], ◌∷◌, ◌++◌, length, take, drop, refl, sym, ap, ◌∙◌, subst, arith, append_assoc}
use Rattle.std.proofs.lemmas.List.{append-nil, take-append-drop, drop_all}
use Rattle.flow_base.specs.declared.place.Place.{Place}
use Rattle.flow_tree.specs.declared.limits.Limits.{Limits}
use Rattle.flow_tree.specs.declared.limits.TheConstants.{OF_CLASS_TEXT}
use Rattle.flow_tree.specs.declared.token.Spot.{Spot}
use Rattle.flow_tree.specs.declared.token.Tokens.{Tokens}
use Rattle.flow_tree.specs.Lexing.{Lexes}
use Rattle.flow_tree.specs.GrammarToken.{Marked, spots_of, KeepsOf, GoodOf}
use Rattle.flow_tree.specs.GrammarAnswer.{place_at}
use Rattle.flow_class.specs.Classes.{RawTree}
use Rattle.flow_classprint.specs.ClassGrammar.{TextRule}
use Rattle.flow_parse.specs.Reading.{Reads}
use Rattle.flow_parse.specs.Failing.{Sees, Never, StopsAt}
use Rattle.flow_parse.specs.Follow.{AtEnd}
use Rattle.flow_parse.proofs.Spots.{spots_take}
use Rattle.flow_parse.proofs.Verdict.{fewer}
use Rattle.flow_classread.specs.declared.read.TheConstants.{CLASS_BYTES}
use Rattle.flow_classread.specs.ClassAnswer.{BeginsText, begun, whole, FailsIn, IsClassText}

-- tokens that a part consists of, or begins with, are seen in it
module _ (limits : Limits) (n : ℕ) where
  sees_part : (xs ys : List Marked) → KeepsOf limits n xs → Sees limits n (length (spots_of xs)) (spots_of xs ++ spots_of ys) (xs ++ ys)
  sees_part [] ys k = tt
  sees_part (x ∷ xs) ys k = (refl, k.0, sees_part xs ys k.1)

  sees_all : (j : ℕ) (xs : List Marked) → KeepsOf limits n xs → Sees limits n j (spots_of xs) xs
  sees_all zero xs k = tt
  sees_all (suc j) [] k = tt
  sees_all (suc j) (x ∷ xs) k = (refl, k.0, sees_all j xs k.1)

  sees_same : (j : ℕ) (ts us : List Spot) (m : List Marked) → j ≤ length ts → take j ts ≡ take j us → Sees limits n j us m → Sees limits n j ts m
  sees_same zero ts us m h e s = tt
  sees_same (suc j) [] us m h e s = absurd (omega (arith, h))
  sees_same (suc j) (t ∷ ts) [] m h e s = absurd (omega (arith, ap length e))
  sees_same (suc j) (t ∷ ts) (u ∷ us) [] h e s = absurd s
  sees_same (suc j) (t ∷ ts) (u ∷ us) (x ∷ m) h e s = (s.0 ∙ sym (ap (first_or t) e), s.1, sees_same j ts us m (omega (arith, h)) (ap rest_of e) s.2)
    where
      first_or : Spot → List Spot → Spot
      first_or t [] = t
      first_or t (u ∷ us) = u

      rest_of : List Spot → List Spot
      rest_of [] = []
      rest_of (u ∷ us) = us

take_front : (xs ys : List Spot) → take (length xs) (xs ++ ys) ≡ xs
take_front [] ys = refl
take_front (x ∷ xs) ys = ap (λ z. x ∷ z) (take_front xs ys)

length_of_take : (k : ℕ) (ts : List Spot) → k ≤ length ts → length (take k ts) ≡ k
length_of_take zero ts h = refl
length_of_take (suc k) [] h = absurd (omega (arith, h))
length_of_take (suc k) (t ∷ ts) h = ap suc (length_of_take k ts (omega (arith, h)))

take_less : (i k : ℕ) (ts : List Spot) → i ≤ k → take i (take k ts) ≡ take i ts
take_less zero k ts h = refl
take_less (suc i) zero ts h = absurd (omega (arith, h))
take_less (suc i) (suc k) [] h = refl
take_less (suc i) (suc k) (t ∷ ts) h = ap (λ y. t ∷ y) (take_less i k ts (omega (arith, h)))

keeps_first : (limits : Limits) (n k : ℕ) (xs : List Marked) → KeepsOf limits n xs → KeepsOf limits n (take k xs)
keeps_first limits n zero xs h = tt
keeps_first limits n (suc k) [] h = tt
keeps_first limits n (suc k) (x ∷ xs) h = (h.0, keeps_first limits n k xs h.1)

-- where a part begins with so many tokens, it does with fewer
begins_fewer : (limits : Limits) {A : Type 0} {R : List Marked → A → Type 0} (n i k : ℕ) (ts : List Spot) → i ≤ k → GoodOf limits R n (take k ts) → GoodOf limits R n (take i ts)
begins_fewer limits {R = R} n i k ts h g = record {
  read = take i g.read;
  rest = drop i g.read ++ g.rest;
  tree = g.tree;
  rule = subst (λ z. R z g.tree) (ap (λ z. z ++ g.rest) (sym (take-append-drop i g.read)) ∙ append_assoc (take i g.read) (drop i g.read) g.rest) g.rule;
  is = spots_take i g.read ∙ ap (take i) g.is ∙ take_less i k ts h;
  keeps = keeps_first limits n i g.read g.keeps;
}

module _ (t : Tokens) where
  -- what begins with no token more begins no class text
  begins_none : (n k : ℕ) → n ≤ 7 → k ≤ length t.spots.items → Never OF_CLASS_TEXT TextRule AtEnd n (suc k) t.spots.items → BeginsText t k → ⊥
  begins_none n k le h f (begun lt g) =
      let ts = t.spots.items in
      let us = spots_of g.read ++ spots_of g.rest in
      let m = g.read ++ g.rest in
      let e : length (spots_of g.read) ≡ suc k = ap length g.is ∙ length_of_take (suc k) ts (omega (arith, lt)) in
      let same : take (suc k) ts ≡ take (suc k) us = sym g.is ∙ sym (take_front (spots_of g.read) (spots_of g.rest)) ∙ ap (λ i. take i us) e in
      let s = sees_part OF_CLASS_TEXT n g.read g.rest (fewer OF_CLASS_TEXT n 7 g.read le g.keeps) in
      let u : Sees OF_CLASS_TEXT n (suc k) ts m = sees_same OF_CLASS_TEXT n (suc k) ts us m (omega (arith, lt)) same (subst (λ j. Sees OF_CLASS_TEXT n j us m) e s) in
      f m [] g.tree g.rule refl (subst (Sees OF_CLASS_TEXT n (suc k) ts) (sym (append-nil m)) u)
  begins_none n k le h f (whole raw d) =
      let s = sees_all OF_CLASS_TEXT n (suc (length t.spots.items)) d.marked (fewer OF_CLASS_TEXT n 7 d.marked le d.keeps) in
      let u = subst (λ ts. Sees OF_CLASS_TEXT n (suc (length t.spots.items)) ts d.marked) d.is s in
      f d.marked [] raw d.rule refl (subst (Sees OF_CLASS_TEXT n (suc (length t.spots.items)) t.spots.items) (sym (append-nil d.marked)) u)

  pub fails_in : (n : ℕ) (at : Place) → n ≤ 7 → StopsAt OF_CLASS_TEXT TextRule AtEnd n t 0 at → FailsIn t at.line
  fails_in n at le s = record {
    number = s.number;
    within = s.stops.within;
    line_is = ap (λ p. p.line) s.place ∙ ap (λ k. (place_at t k).line) (let e : 0 + s.number ≡ s.number = omega arith in e);
    first = λ i lt. begun (omega (arith, lt, s.stops.within)) (begins_fewer OF_CLASS_TEXT 7 (suc i) s.number t.spots.items lt s.stops.good);
    bad = begins_none n s.number le s.stops.within s.stops.bad;
  }

  pub is_class_text : (bytes : List ℕ) (raw : RawTree) → length bytes ≤ CLASS_BYTES → Lexes bytes t.spots.items t.end
      → Reads OF_CLASS_TEXT TextRule AtEnd t.spots.items 0 raw (length t.spots.items) → IsClassText bytes raw
  is_class_text bytes raw short l r = record {
    short = short;
    spots = t.spots.items;
    end = t.end;
    lexes = l;
    derives =
        record {
          marked = r.marked;
          rule = r.rule;
          is = sym (r.is ∙ ap (λ z. spots_of r.marked ++ z) (drop_all (length t.spots.items) t.spots.items (omega arith)) ∙ append-nil (spots_of r.marked));
          keeps = r.keeps;
        };
    only = λ other d. (r.only 7 (suc (length t.spots.items)) d.marked [] other d.rule refl (omega arith)
        (subst (Sees OF_CLASS_TEXT 7 (suc (length t.spots.items)) t.spots.items) (sym (append-nil d.marked))
        (subst (λ ts. Sees OF_CLASS_TEXT 7 (suc (length t.spots.items)) ts d.marked) d.is (sees_all OF_CLASS_TEXT 7 (suc (length t.spots.items)) d.marked d.keeps)))).0;
  }
