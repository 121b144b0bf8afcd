-- No time is kept without an event.
use Rattle.std.proofs.Common.{◌≡◌, ◌≢◌, ℕ, zero, suc, List, [], ◌∷◌, arith, Some, None, subst, refl}
use Rattle.std.specs.declared.cmp.Ordering.{Ordering}
use Rattle.std.specs.declared.cmp.Ordering.TheVariants.{Less, Equal, Greater}
use Rattle.std.specs.Ordering.{match_ordering}
use Rattle.std.specs.Prelude.{Bool, true, false, cond, Result, Ok, Err, OnOk, OnErr, nat_lt, if◌then◌else◌}
use Rattle.std.specs.List.{All}
use Rattle.std.specs.Map.{lookup, set_value, remove_entry}
use Rattle.std.specs.BTreeMap.{insert_entry}
use Rattle.flow_timers.specs.declared.moment.Event.{Event}
use Rattle.flow_timers.specs.Moments.{numbered}

pub all_cons : {X : Type 0} (P : X → Type 0) (x : X) (xs : List X) → P x → All P xs → All P (x ∷ xs)
all_cons P x xs p all zero d lt = p
all_cons P x xs p all (suc k) d lt = all k d (omega (arith, lt))

all_rest : {X : Type 0} (P : X → Type 0) (x : X) (xs : List X) → All P (x ∷ xs) → All P xs
all_rest P x xs all k d lt = all (suc k) d (omega (arith, lt))

all_first : {X : Type 0} (P : X → Type 0) (x : X) (xs : List X) → All P (x ∷ xs) → P x
all_first P x xs all = all 0 x (omega arith)

all_cond : {X : Type 0} (P : X → Type 0) (b : Bool) (xs ys : List X) → All P xs → All P ys → All P (cond b xs ys)
all_cond P true xs ys p q = p
all_cond P false xs ys p q = q

all_by : {X : Type 0} (P : X → Type 0) (o : Ordering) (xs ys zs : List X) → All P xs → All P ys → All P zs → All P (match_ordering o xs ys zs)
all_by P Less xs ys zs p q r = p
all_by P Equal xs ys zs p q r = q
all_by P Greater xs ys zs p q r = r

pub all_set : {X : Type 0} (P : X → Type 0) (test : ℕ → Bool) (ms : List (ℕ × X)) (w : X) → All (λ m. P m.1) ms → P w → All (λ m. P m.1) (set_value test ms w)
all_set P test [] w all p = all
all_set P test (m ∷ ms) w all p =
    let Q : ℕ × _ → Type 0 = λ m. P m.1 in
    all_cond Q (test m.0) _ _
    (all_cons Q (m.0, w) ms p (all_rest Q m ms all))
    (all_cons Q m _ (all_first Q m ms all) (all_set P test ms w (all_rest Q m ms all) p))

pub all_inserted : {X : Type 0} (P : X → Type 0) (cmp : ℕ → ℕ → Ordering) (ms : List (ℕ × X)) (t : ℕ) (w : X) → All (λ m. P m.1) ms → P w → All (λ m. P m.1) (insert_entry cmp ms t w)
all_inserted P cmp [] t w all p = all_cons (λ m. P m.1) (t, w) [] p all
all_inserted P cmp (m ∷ ms) t w all p =
    let Q : ℕ × _ → Type 0 = λ m. P m.1 in
    all_by Q (cmp t m.0) _ _ _
    (all_cons Q (t, w) (m ∷ ms) p all)
    (all_cons Q (m.0, w) ms p (all_rest Q m ms all))
    (all_cons Q m _ (all_first Q m ms all) (all_inserted P cmp ms t w (all_rest Q m ms all) p))

pub all_removed : {X : Type 0} (P : X → Type 0) (test : ℕ → Bool) (ms : List (ℕ × X)) → All (λ m. P m.1) ms → All (λ m. P m.1) (remove_entry test ms)
all_removed P test [] all = all
all_removed P test (m ∷ ms) all =
    let Q : ℕ × _ → Type 0 = λ m. P m.1 in
    all_cond Q (test m.0) _ _ (all_rest Q m ms all)
    (all_cons Q m _ (all_first Q m ms all) (all_removed P test ms (all_rest Q m ms all)))

pub all_found : {X : Type 0} (P : X → Type 0) (test : ℕ → Bool) (ms : List (ℕ × X)) (w : X) → All (λ m. P m.1) ms → lookup test ms ≡ Some w → P w
all_found P test [] w all found = absurd (no found)
  where
    no : {X : Type 0} {y : X} → None ≡ Some y → ⊥
    no h = cc
all_found P test (m ∷ ms) w all found = by (all_found P test ms w (all_rest (λ m. P m.1) m ms all)) (test m.0) found
  where
    some : {Y : Type 0} {y z : Y} → Some y ≡ Some z → y ≡ z
    some h = cc

    by : (lookup test ms ≡ Some w → P w) → (b : Bool) → cond b (Some m.1) (lookup test ms) ≡ Some w → P w
    by go true e = subst P (some e) (all_first (λ m. P m.1) m ms all)
    by go false e = go e

pub numbered_some : {A : Type 0} (x : Event A) (xs : List (Event A)) → numbered x xs ≢ []
numbered_some x [] e = no e
  where
    no : x ∷ [] ≡ [] → ⊥
    no h = cc
numbered_some {A} x (y ∷ ys) e = by (nat_lt x.number y.number) e
  where
    no : {z : Event A} {zs : List (Event A)} → z ∷ zs ≡ [] → ⊥
    no h = cc

    by : (b : Bool) → (if b then x ∷ y ∷ ys else y ∷ numbered x ys) ≡ [] → ⊥
    by true h = no h
    by false h = no h

pub in_both : {X E P : Type 0} (r : Result X E) → OnOk r P → OnErr r P → P
in_both (Ok x) p q = p
in_both (Err e) p q = q

-- an entry that is set and then removed leaves the others
pub all_taken : {X : Type 0} (P : X → Type 0) (test : ℕ → Bool) (ms : List (ℕ × X)) (w : X) → All (λ m. P m.1) ms → All (λ m. P m.1) (remove_entry test (set_value test ms w))
all_taken P test [] w all = all
all_taken {X} P test (m ∷ ms) w all = by (all_taken P test ms w (all_rest (λ m. P m.1) m ms all)) (test m.0) refl
  where
    by : All (λ m. P m.1) (remove_entry test (set_value test ms w)) → (b : Bool) → test m.0 ≡ b → All (λ m. P m.1) (remove_entry test (set_value test (m ∷ ms) w))
    by go true e = rw e (rw e (all_rest (λ m. P m.1) m ms all))
    by go false e = rw e (rw e (all_cons (λ m. P m.1) m _ (all_first (λ m. P m.1) m ms all) go))
