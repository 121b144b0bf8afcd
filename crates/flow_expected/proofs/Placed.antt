-- A token behind the first ones of a text.
use Rattle.std.proofs.Common.{◌≡◌, ◌≢◌, ℕ, suc, zero, ◌+◌, ◌<◌, ◌≤◌, Bool, true, false, List, [], ◌∷◌, ◌++◌, length, take, get_or, refl, sym, ap, ◌∙◌, subst, arith, Some, slice_get, unwrap_or}
use Rattle.std.specs.Option.{option_map}
use Rattle.std.proofs.lemmas.List.{take_more}
use Rattle.flow_base.specs.declared.place.Place.{Place}
use Rattle.flow_tree.specs.declared.token.Tokens.{Tokens}
use Rattle.flow_tree.specs.declared.token.Spot.{Spot}
use Rattle.flow_tree.specs.Decls.{ProgramTree}
use Rattle.flow_tree.specs.GrammarToken.{Marked, Good}
use Rattle.flow_tree.specs.GrammarDecl.{ProgramRule, program}
use Rattle.flow_tree.specs.GrammarAnswer.{place_at}
use Rattle.flow_parse.specs.ParseAnswer.{GoodTo, begun, whole}
use Rattle.flow_expected.specs.declared.kind.Kind.{Kind}
use Rattle.flow_expected.specs.Expected.{spelled, CouldStand, IsReached, Decides, Picks, picked, passed}

pub without_last : {A : Type 0} (xs : List A) (s : A) (k : ℕ) → k ≤ length xs → take k (take k xs ++ s ∷ []) ≡ take k xs
without_last xs s zero le = refl
without_last [] s (suc k) le = absurd (omega arith)
without_last (x ∷ xs) s (suc k) le = ap (λ ys. x ∷ ys) (without_last xs s k (omega arith))

-- where a text ends doesn't matter to its begin
ends_elsewhere : {e : Place} {all : List Marked} {p : ProgramTree} (f : Place) → ProgramRule e all p → ProgramRule f all (record { decls = p.decls; end = f })
ends_elsewhere f (program d) = program d

other_end : (e f : Place) (n : ℕ) (ts : _) → Good (ProgramRule e) n ts → Good (ProgramRule f) n ts
other_end e f n ts g = record {
  read = g.read;
  rest = g.rest;
  tree = record { decls = g.tree.decls; end = f };
  rule = ends_elsewhere f g.rule;
  is = g.is;
  keeps = g.keeps;
}

good_begun : (t : Tokens) (n j : ℕ) → GoodTo t n j → j < length t.spots.items → Good (ProgramRule t.end) n (take (suc j) t.spots.items)
good_begun t n j (begun l g) h = g
good_begun t n j (whole p d) h = absurd (omega arith)

front : {A : Type 0} (xs : List A) (s : A) (k j : ℕ) → j < k → k ≤ length xs → take (suc j) (take k xs ++ s ∷ []) ≡ take (suc j) xs
front [] s k j l le = absurd (omega arith)
front (x ∷ xs) s zero j l le = absurd (omega arith)
front (x ∷ xs) s (suc k) zero l le = refl
front (x ∷ xs) s (suc k) (suc j) l le = ap (λ ys. x ∷ ys) (front xs s k j (omega arith) (omega arith))

at_end : {A : Type 0} (xs : List A) (s : A) (k : ℕ) → k ≤ length xs → slice_get (take k xs ++ s ∷ []) k ≡ Some s
at_end xs s zero le = refl
at_end [] s (suc k) le = absurd (omega arith)
at_end (x ∷ xs) s (suc k) le = at_end xs s k (omega arith)

one_more : {A : Type 0} (xs : List A) (s : A) (k : ℕ) → k ≤ length xs → length (take k xs ++ s ∷ []) ≡ suc k
one_more xs s zero le = refl
one_more [] s (suc k) le = absurd (omega arith)
one_more (x ∷ xs) s (suc k) le = ap suc (one_more xs s k (omega arith))

-- the tokens u are the first k of t and this one
module _ (t u : Tokens) (k : ℕ) (s : Spot) (le : k ≤ length t.spots.items) (same : u.spots.items ≡ take k t.spots.items ++ s ∷ []) where
  pub counts_one_more : length u.spots.items ≡ k + 1
  counts_one_more = omega (arith, ap length same ∙ one_more t.spots.items s k le)

  pub still_reached : IsReached t k → IsReached u k
  still_reached r j l = begun (omega (arith, counts_one_more)) (other_end t.end u.end 7 (take (suc j) u.spots.items)
      (subst (Good (ProgramRule t.end) 7) (sym (ap (take (suc j)) same ∙ front t.spots.items s k j l le)) (good_begun t 7 j (r j l) (omega arith))))

  pub place_last : place_at u k ≡ s.at
  place_last = ap (λ xs. unwrap_or (option_map (λ x. x.at) (slice_get xs k)) u.end) same
      ∙ ap (λ o. unwrap_or (option_map (λ x. x.at) o) u.end) (at_end t.spots.items s k le)

  pub stands : (kind : Kind) (fits : Bool) → s ≡ record { token = spelled kind; at = place_at t k }
      → Decides fits (Good (ProgramRule u.end) 2 u.spots.items) → Decides fits (CouldStand t k kind)
  stands kind true is g = other_end u.end t.end 2 _ (subst (Good (ProgramRule u.end) 2) (same ∙ ap (λ x. take k t.spots.items ++ x ∷ []) is) g)
  stands kind false is never = λ g. never (other_end t.end u.end 2 _ (subst (Good (ProgramRule t.end) 2) (sym (same ∙ ap (λ x. take k t.spots.items ++ x ∷ []) is)) g))

-- one thing more
module _ {A : Type 0} (P : A → Type 0) (xs found : List A) (i : ℕ) (d : A) (l : i < length xs) (ps : Picks P (take i xs) found) where
  pub picks_more : P (get_or xs i d) → Picks P (take (i + 1) xs) (found ++ get_or xs i d ∷ [])
  picks_more p = subst (λ ys. Picks P ys (found ++ get_or xs i d ∷ [])) (sym (take_more xs i d l)) (picked p ps)

  pub passes_more : (P (get_or xs i d) → ⊥) → Picks P (take (i + 1) xs) found
  passes_more p = subst (λ ys. Picks P ys found) (sym (take_more xs i d l)) (passed p ps)
