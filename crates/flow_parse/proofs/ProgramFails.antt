-- From the reading of declarations to what `parse` answers.
use Rattle.std.proofs.Common.{◌≡◌, ℕ, zero, suc, ◌≤◌, List, [], ◌∷◌, ◌++◌, length, take, drop, refl, sym, ap, ◌∙◌, subst, arith, append_assoc}
use Rattle.std.proofs.lemmas.List.{append-nil, take-append-drop}
use Rattle.flow_tree.specs.declared.limits.TheConstants.{OF_PROGRAMS}
use Rattle.flow_base.specs.declared.place.Place.{Place}
use Rattle.flow_tree.specs.declared.token.Tokens.{Tokens}
use Rattle.flow_tree.specs.declared.token.Spot.{Spot}
use Rattle.flow_tree.specs.Decls.{DeclTree, ProgramTree}
use Rattle.flow_tree.specs.GrammarToken.{Marked, spots_of, Keeps, Good}
use Rattle.flow_tree.specs.GrammarDecl.{DeclsRule, ProgramRule, program}
use Rattle.flow_tree.specs.GrammarAnswer.{place_at}
use Rattle.flow_parse.specs.Follow.{AtEnd}
use Rattle.flow_parse.specs.Failing.{Sees, Never, Stops}
use Rattle.flow_parse.specs.ParseAnswer.{GoodTo, begun, whole, FailsBy, FailsLimit}
use Rattle.flow_parse.proofs.Spots.{spots_take}

sees_begun : (n : ℕ) (xs ys : List Marked) → Keeps n xs → Sees OF_PROGRAMS n (length (spots_of xs)) (spots_of xs ++ spots_of ys) (xs ++ ys)
sees_begun n [] ys k = tt
sees_begun n (x ∷ xs) ys k = (refl, k.0, sees_begun n xs ys k.1)

sees_whole : (n j : ℕ) (xs : List Marked) → Keeps n xs → Sees OF_PROGRAMS n j (spots_of xs) xs
sees_whole n zero xs k = tt
sees_whole n (suc j) [] k = tt
sees_whole n (suc j) (x ∷ xs) k = (refl, k.0, sees_whole n j xs k.1)

sees_more : (n j : ℕ) (ts us : List Spot) (m : List Marked) → j ≤ length ts → take j ts ≡ take j us → Sees OF_PROGRAMS n j us m → Sees OF_PROGRAMS n j ts m
sees_more n zero ts us m h e s = tt
sees_more n (suc j) [] us m h e s = absurd (omega arith)
sees_more n (suc j) (t ∷ ts) [] m h e s = absurd (nothing (t ∷ take j ts) e)
  where
    nothing : {t : Spot} {ts : List Spot} (us : List Spot) → t ∷ ts ≡ [] → ⊥
    nothing us e = cc
sees_more n (suc j) (t ∷ ts) (u ∷ us) [] h e s = absurd s
sees_more n (suc j) (t ∷ ts) (u ∷ us) (x ∷ m) h e s = (s.0 ∙ sym (ap (head_or t) e), s.1, sees_more n j ts us m (omega arith) (ap tail_of e) s.2)
  where
    head_or : Spot → List Spot → Spot
    head_or t [] = t
    head_or t (u ∷ us) = u

    tail_of : List Spot → List Spot
    tail_of [] = []
    tail_of (u ∷ us) = us

take_all : (xs ys : List Spot) → take (length xs) (xs ++ ys) ≡ xs
take_all [] ys = refl
take_all (x ∷ xs) ys = ap (λ z. x ∷ z) (take_all xs ys)

length_take : (k : ℕ) (ts : List Spot) → k ≤ length ts → length (take k ts) ≡ k
length_take zero ts h = refl
length_take (suc k) [] h = absurd (omega arith)
length_take (suc k) (t ∷ ts) h = ap suc (length_take k ts (omega arith))

decls_of : {end : Place} {w : List Marked} {p : ProgramTree} → ProgramRule end w p → (xs : List DeclTree) × DeclsRule 1 w xs
decls_of (program {xs = xs} r) = (xs, r)

-- declarations of which none begin so are no program that does
pub never_good : (t : Tokens) (n k : ℕ) → k ≤ length t.spots.items → Never OF_PROGRAMS (DeclsRule 1) AtEnd n (suc k) t.spots.items → GoodTo t n k → ⊥
never_good t n k h f (begun l g) =
    let ts = t.spots.items in
    let d = decls_of g.rule in
    let e : length (spots_of g.read) ≡ suc k = ap length g.is ∙ length_take (suc k) ts (omega arith) in
    let same : take (suc k) ts ≡ take (suc k) (spots_of g.read ++ spots_of g.rest) =
    sym g.is ∙ sym (take_all (spots_of g.read) (spots_of g.rest)) ∙ ap (λ n. take n (spots_of g.read ++ spots_of g.rest)) e in
    let s : Sees OF_PROGRAMS n (suc k) ts (g.read ++ g.rest) = sees_more n (suc k) ts (spots_of g.read ++ spots_of g.rest) (g.read ++ g.rest) (omega arith) same
    (subst (λ j. Sees OF_PROGRAMS n j (spots_of g.read ++ spots_of g.rest) (g.read ++ g.rest)) e (sees_begun n g.read g.rest g.keeps)) in
    f (g.read ++ g.rest) [] d.0 d.1 refl (subst (Sees OF_PROGRAMS n (suc k) ts) (sym (append-nil (g.read ++ g.rest))) s)
never_good t n k h f (whole p d) =
    let x = decls_of d.rule in
    f d.marked [] x.0 x.1 refl (subst (Sees OF_PROGRAMS n (suc k) t.spots.items) (sym (append-nil d.marked))
    (subst (λ ts. Sees OF_PROGRAMS n (suc k) ts d.marked) d.is (sees_whole n (suc k) d.marked d.keeps)))

pub good_program : (t : Tokens) (n : ℕ) (ts : List Spot) → Good (DeclsRule 1) n ts → Good (ProgramRule t.end) n ts
good_program t n ts g = record { read = g.read; rest = g.rest; tree = record { decls = g.tree; end = t.end }; rule = program g.rule; is = g.is; keeps = g.keeps }

keeps_take : (n k : ℕ) (xs : List Marked) → Keeps n xs → Keeps n (take k xs)
keeps_take n zero xs h = tt
keeps_take n (suc k) [] h = tt
keeps_take n (suc k) (x ∷ xs) h = (h.0, keeps_take n k xs h.1)

take_take : (i k : ℕ) (ts : List Spot) → i ≤ k → take i (take k ts) ≡ take i ts
take_take zero k ts h = refl
take_take (suc i) zero ts h = absurd (omega arith)
take_take (suc i) (suc k) [] h = refl
take_take (suc i) (suc k) (t ∷ ts) h = ap (λ y. t ∷ y) (take_take i k ts (omega arith))

-- fewer tokens begin so too
pub fewer_tokens : (t : Tokens) (n i k : ℕ) → i ≤ k → Good (ProgramRule t.end) n (take k t.spots.items) → Good (ProgramRule t.end) n (take i t.spots.items)
fewer_tokens t n i k h g = record {
  read = take i g.read;
  rest = drop i g.read ++ g.rest;
  tree = g.tree;
  rule = subst (λ z. ProgramRule t.end z g.tree) (ap (λ z. z ++ g.rest) (sym (take-append-drop i g.read)) ∙ append_assoc (take i g.read) (drop i g.read) g.rest) g.rule;
  is = spots_take i g.read ∙ ap (take i) g.is ∙ take_take i k t.spots.items h;
  keeps = keeps_take n i g.read g.keeps;
}

-- where declarations stop, `parse` refuses
abbrev pub program_fails : (t : Tokens) (n k : ℕ) (at : Place) → n ≤ 7 → length t.spots.items ≤ 200000 → at ≡ place_at t k → Stops OF_PROGRAMS (DeclsRule 1) AtEnd n t.spots.items k → FailsBy n t at
program_fails t n k at le few e s = record {
  few = few;
  number = k;
  within = s.within;
  place = e;
  first = λ i lt. begun (omega (arith, s.within)) (fewer_tokens t 7 (suc i) k (omega arith) (good_program t 7 (take k t.spots.items) s.good));
  bad = never_good t n k s.within s.bad;
}

pub program_limit : (t : Tokens) (n k : ℕ) (at : Place) → 3 ≤ n → n ≤ 7 → length t.spots.items ≤ 200000 → at ≡ place_at t k → Stops OF_PROGRAMS (DeclsRule 1) AtEnd n t.spots.items k
    → FailsLimit n t at
program_limit t n k at ge le few e s = record {
  least = ge;
  greatest = le;
  fails = program_fails t n k at le few e s;
  below = λ m h. begun (s.token (omega arith)) (good_program t m (take (suc k) t.spots.items) (s.below m h (omega arith)));
}
