-- Of the pending events those stay of which a test says so.
use Rattle.std.proofs.Common.{◌≡◌, ◌≢◌, ℕ, List, [], ◌∷◌, ◌++◌, length, map, filter, not, sym, ap, ◌∙◌, refl, subst, arith}
use Rattle.std.specs.Prelude.{Bool, true, false, cond, ◌==◌}
use Rattle.std.specs.List.{All, AllByRecursion}
use Rattle.std.specs.Map.Calls.{RetainsPairs}
use Rattle.flow_timers.proofs.Filled.{all_cons}
use Rattle.flow_timers.proofs.Taking.{left_none, left_some}
use Rattle.flow_timers.specs.declared.moment.Event.{Event}
use Rattle.flow_timers.specs.Moments.{at_time, events_of}
use Rattle.flow_timers.specs.Pending.{Pending, comes_before, StandInOrder}

all_kept : {A : Type 0} (P : Pending A → Type 0) (q : Pending A → Bool) (ys : List (Pending A)) → AllByRecursion P ys → AllByRecursion P (filter q ys)
all_kept P q [] all = tt
all_kept {A} P q (y ∷ ys) (first, rest) = by (all_kept P q ys rest) (q y)
  where
    by : AllByRecursion P (filter q ys) → (b : Bool) → AllByRecursion P (cond b (y ∷ filter q ys) (filter q ys))
    by later true = (first, later)
    by later false = later

-- those that stay stand in order
pub kept_stand : {A : Type 0} (q : Pending A → Bool) (ys : List (Pending A)) → StandInOrder ys → StandInOrder (filter q ys)
kept_stand q [] stands = tt
kept_stand {A} q (y ∷ ys) (first, rest) = by (kept_stand q ys rest) (q y)
  where
    by : StandInOrder (filter q ys) → (b : Bool) → StandInOrder (cond b (y ∷ filter q ys) (filter q ys))
    by later true = (all_kept (λ z. comes_before z y ≡ false) q ys first, later)
    by later false = later

is_false : (c : Bool) → true ≡ not c → false ≡ c
is_false true e = sym e
is_false false e = refl

is_true : (c : Bool) → false ≡ not c → true ≡ c
is_true true e = refl
is_true false e = sym e

module _ {A : Type 0} (keep : A → Bool) where
  -- the events of one time, and those of later ones
  kept_at : (t : ℕ) (xs : List (Event A)) (later kept : List (Pending A)) → kept ≡ filter (λ e. keep e.what) later
      → map (at_time t) (filter (λ e. keep e.what) xs) ++ kept ≡ filter (λ e. keep e.what) (map (at_time t) xs ++ later)
  kept_at t [] later kept is = is
  kept_at t (x ∷ xs) later kept is = by (kept_at t xs later kept is) (keep x.what)
    where
      by : map (at_time t) (filter (λ e. keep e.what) xs) ++ kept ≡ filter (λ e. keep e.what) (map (at_time t) xs ++ later) → (b : Bool)
          → map (at_time t) (cond b (x ∷ filter (λ e. keep e.what) xs) (filter (λ e. keep e.what) xs)) ++ kept
          ≡ cond b (at_time t x ∷ filter (λ e. keep e.what) (map (at_time t) xs ++ later)) (filter (λ e. keep e.what) (map (at_time t) xs ++ later))
      by go true = ap (λ ys. at_time t x ∷ ys) go
      by go false = go

  -- a time of which no event stays isn't kept
  one_time : (b : Bool) (t : ℕ) (xs : List (Event A)) (ms kept : List (ℕ × List (Event A))) → b ≡ not (length xs == 0) → kept ≡ cond b ((t, xs) ∷ ms) ms
      → All (λ m. m.1 ≢ []) ms → (events_of kept ≡ map (at_time t) xs ++ events_of ms) × All (λ m. m.1 ≢ []) kept
  one_time true t xs ms kept some is all =
      let not_none : xs ≢ [] = left_some xs false (is_false (length xs == 0) some) refl in
      (ap events_of is, subst (All (λ m. m.1 ≢ [])) (sym is) (all_cons (λ m. m.1 ≢ []) (t, xs) ms not_none all))
  one_time false t xs ms kept none is all =
      let empty : xs ≡ [] = left_none xs true (is_true (length xs == 0) none) refl in
      (ap events_of is ∙ ap (λ ys. map (at_time t) ys ++ events_of ms) (sym empty), subst (All (λ m. m.1 ≢ [])) (sym is) all)

  module _ {F : Type 0} (T : F → ℕ → List (Event A) → Bool → List (Event A) → F → Type 0) (f : F)
      (call : (t : ℕ) (xs : List (Event A)) (b : Bool) (ys : List (Event A)) (f' : F) → T f t xs b ys f' → (ys ≡ filter (λ e. keep e.what) xs) × (b ≡ not (length ys == 0)) × (f' ≡ f)) where
    -- the events of all times
    pub kept_times : (ms kept : List (ℕ × List (Event A))) → RetainsPairs T f ms kept → (events_of kept ≡ filter (λ e. keep e.what) (events_of ms)) × All (λ m. m.1 ≢ []) kept
    kept_times [] kept is = (ap events_of is, subst (All (λ m. m.1 ≢ [])) (sym is) (λ k d below. absurd (omega (arith, below))))
    kept_times (m ∷ ms) kept (b, ys, f', rest, told, others, is) =
        let (stay, some, same) = call m.0 m.1 b ys f' told in
        let (later, all) = kept_times ms rest (subst (λ u. RetainsPairs T u ms rest) same others) in
        let (first, whole) = one_time b m.0 ys rest kept some is all in
        (first ∙ ap (λ xs. map (at_time m.0) xs ++ events_of rest) stay ∙ kept_at m.0 m.1 (events_of ms) (events_of rest) later, whole)
