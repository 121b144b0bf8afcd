-- An event is taken out at its time.
use Rattle.std.proofs.Common.{◌≡◌, ◌≢◌, ℕ, suc, List, [], ◌∷◌, ◌++◌, length, map, sym, ap, ◌∙◌, refl, None, Some, arith, subst}
use Rattle.std.specs.declared.cmp.Ordering.{Ordering}
use Rattle.std.specs.declared.cmp.Ordering.TheVariants.{Less, Equal, Greater}
use Rattle.std.specs.Ordering.{nat_cmp, is_eq}
use Rattle.std.specs.Prelude.{◌==◌, Bool, true, false, cond, nat_eq, ◌&&◌, if◌then◌else◌}
use Rattle.std.specs.List.{AllByRecursion}
use Rattle.std.specs.Map.{keys_of, lookup, set_value, remove_entry}
use Rattle.std.specs.BTreeMap.{is_at}
use Rattle.std.specs.List.Sorted.{IsStrictlySortedBy}
use Rattle.flow_timers.proofs.Placing.{less, same, more, all_later, not_later}
use Rattle.flow_timers.specs.declared.moment.Event.{Event}
use Rattle.flow_timers.specs.Pending.{Pending, event_at, without_event}
use Rattle.flow_timers.specs.Moments.{event_numbered, without_numbered, at_time, events_of}

-- no event of another time is meant
pub other_time : {A : Type 0} (t n s : ℕ) (xs : List (Event A)) (rest : List (Pending A)) → s ≢ t
    → (event_at t n (map (at_time s) xs ++ rest) ≡ event_at t n rest) × (without_event t n (map (at_time s) xs ++ rest) ≡ map (at_time s) xs ++ without_event t n rest)
other_time t n s [] rest other = (refl, refl)
other_time t n s (x ∷ xs) rest other =
    let go = other_time t n s xs rest other in
    let not_it : (nat_eq s t && nat_eq x.number n) ≡ false = grind (arith, other) in (
      ap (λ b. if b then Some x.what else event_at t n (map (at_time s) xs ++ rest)) not_it ∙ go.0,
      ap (λ b. if b then map (at_time s) xs ++ rest else at_time s x ∷ without_event t n (map (at_time s) xs ++ rest)) not_it ∙ ap (λ ys. at_time s x ∷ ys) go.1,
    )

-- where no later event has its time and number, an event is taken out among those of its time
pub own_time : {A : Type 0} (t n : ℕ) (xs : List (Event A)) (rest : List (Pending A)) → event_at t n rest ≡ None → without_event t n rest ≡ rest
    → (event_at t n (map (at_time t) xs ++ rest) ≡ event_numbered n xs) × (without_event t n (map (at_time t) xs ++ rest) ≡ map (at_time t) (without_numbered n xs) ++ rest)
own_time t n [] rest none same = (none, same)
own_time {A} t n (x ∷ xs) rest none same =
    let by_number : (nat_eq t t && nat_eq x.number n) ≡ nat_eq x.number n = grind arith in
    let go = own_time t n xs rest none same in (
      ap (λ b. if b then Some x.what else event_at t n (map (at_time t) xs ++ rest)) by_number ∙ ap (λ o. if nat_eq x.number n then Some x.what else o) go.0,
      ap (λ b. if b then map (at_time t) xs ++ rest else at_time t x ∷ without_event t n (map (at_time t) xs ++ rest)) by_number ∙ branches go.1 (nat_eq x.number n),
    )
  where
    branches : without_event t n (map (at_time t) xs ++ rest) ≡ map (at_time t) (without_numbered n xs) ++ rest → (b : Bool)
        → (if b then map (at_time t) xs ++ rest else at_time t x ∷ without_event t n (map (at_time t) xs ++ rest))
        ≡ map (at_time t) (if b then xs else x ∷ without_numbered n xs) ++ rest
    branches e true = refl
    branches e false = ap (λ ys. at_time t x ∷ ys) e

-- where no event has the time, none is taken out
pub elsewhere : {A : Type 0} (t n : ℕ) (ms : List (ℕ × List (Event A))) → lookup (is_at (nat_cmp t)) ms ≡ None
    → (event_at t n (events_of ms) ≡ None) × (without_event t n (events_of ms) ≡ events_of ms)
elsewhere t n [] none = (refl, refl)
elsewhere {A} t n (m ∷ ms) none = by (elsewhere t n ms) (nat_cmp t m.0) refl
  where
    here : (o : Ordering) → nat_cmp t m.0 ≡ o → cond (is_eq o) (Some m.1) (lookup (is_at (nat_cmp t)) ms) ≡ None
    here o e = subst (λ p. cond (is_eq p) (Some m.1) (lookup (is_at (nat_cmp t)) ms) ≡ None) e none

    no : {X : Type 0} {y : X} → Some y ≡ None → ⊥
    no h = cc

    past : m.0 ≢ t → (event_at t n (events_of ms) ≡ None) × (without_event t n (events_of ms) ≡ events_of ms)
        → (event_at t n (events_of (m ∷ ms)) ≡ None) × (without_event t n (events_of (m ∷ ms)) ≡ events_of (m ∷ ms))
    past other rest =
        let step = other_time t n m.0 m.1 (events_of ms) other in
        (step.0 ∙ rest.0, step.1 ∙ ap (λ ys. map (at_time m.0) m.1 ++ ys) rest.1)

    by : (lookup (is_at (nat_cmp t)) ms ≡ None → (event_at t n (events_of ms) ≡ None) × (without_event t n (events_of ms) ≡ events_of ms))
        → (o : Ordering) → nat_cmp t m.0 ≡ o
        → (event_at t n (events_of (m ∷ ms)) ≡ None) × (without_event t n (events_of (m ∷ ms)) ≡ events_of (m ∷ ms))
    by go Less e = let below = less t m.0 e in past (λ is. omega (arith, below, is)) (go (here Less e))
    by go Equal e = absurd (no (here Equal e))
    by go Greater e = let above = more t m.0 e in past (λ is. omega (arith, above, is)) (go (here Greater e))

-- an event is taken out among those of its time
pub at_its_time : {A : Type 0} (t n : ℕ) (ms : List (ℕ × List (Event A))) (old : List (Event A)) → IsStrictlySortedBy nat_cmp (keys_of ms)
    → lookup (is_at (nat_cmp t)) ms ≡ Some old
    → (event_at t n (events_of ms) ≡ event_numbered n old) × (without_event t n (events_of ms) ≡ events_of (set_value (is_at (nat_cmp t)) ms (without_numbered n old)))
unfolding IsStrictlySortedBy
at_its_time t n [] old sorted found = absurd (no found)
  where
    no : {X : Type 0} {y : X} → None ≡ Some y → ⊥
    no h = cc
at_its_time {A} t n (m ∷ ms) old sorted found = by (at_its_time t n ms old sorted.1) (nat_cmp t m.0) refl
  where
    no : {X : Type 0} {y : X} → None ≡ Some y → ⊥
    no h = cc

    some : {X : Type 0} {y z : X} → Some y ≡ Some z → y ≡ z
    some h = cc

    here : (o : Ordering) → nat_cmp t m.0 ≡ o → cond (is_eq o) (Some m.1) (lookup (is_at (nat_cmp t)) ms) ≡ Some old
    here o e = subst (λ p. cond (is_eq p) (Some m.1) (lookup (is_at (nat_cmp t)) ms) ≡ Some old) e found

    by : (lookup (is_at (nat_cmp t)) ms ≡ Some old → (event_at t n (events_of ms) ≡ event_numbered n old)
        × (without_event t n (events_of ms) ≡ events_of (set_value (is_at (nat_cmp t)) ms (without_numbered n old))))
        → (o : Ordering) → nat_cmp t m.0 ≡ o
        → (event_at t n (events_of (m ∷ ms)) ≡ event_numbered n old) × (without_event t n (events_of (m ∷ ms)) ≡ events_of (set_value (is_at (nat_cmp t)) (m ∷ ms) (without_numbered n old)))
    by go Less e = absurd (no (sym (not_later t ms (all_later t m.0 (keys_of ms) (grind (arith, e)) sorted.0)) ∙ here Less e))
    by go Equal e =
        let is : t ≡ m.0 = same t m.0 e in
        let old_is : m.1 ≡ old = some (here Equal e) in
        let later = subst (λ s. AllByRecursion (λ k. nat_cmp s k ≡ Less) (keys_of ms)) (sym is) sorted.0 in
        let rest = elsewhere t n ms (not_later t ms later) in
        rw e (subst (λ s. (event_at t n (map (at_time s) m.1 ++ events_of ms) ≡ event_numbered n old)
        × (without_event t n (map (at_time s) m.1 ++ events_of ms) ≡ map (at_time s) (without_numbered n old) ++ events_of ms)) is
        (subst (λ ys. (event_at t n (map (at_time t) ys ++ events_of ms) ≡ event_numbered n old)
        × (without_event t n (map (at_time t) ys ++ events_of ms) ≡ map (at_time t) (without_numbered n old) ++ events_of ms)) (sym old_is)
        (own_time t n old (events_of ms) rest.0 rest.1)))
    by go Greater e =
        let above = more t m.0 e in
        let rest = go (here Greater e) in
        let step = other_time t n m.0 m.1 (events_of ms) (λ is. omega (arith, above, is)) in
        rw e (step.0 ∙ rest.0, step.1 ∙ ap (λ ys. map (at_time m.0) m.1 ++ ys) rest.1)

-- a time that has no event left adds none
pub left_empty : {A : Type 0} (test : ℕ → Bool) (ms : List (ℕ × List (Event A))) → events_of (remove_entry test (set_value test ms [])) ≡ events_of (set_value test ms [])
left_empty test [] = refl
left_empty {A} test (m ∷ ms) = by (left_empty test ms) (test m.0) refl
  where
    by : events_of (remove_entry test (set_value test ms [])) ≡ events_of (set_value test ms []) → (b : Bool) → test m.0 ≡ b
        → events_of (remove_entry test (set_value test (m ∷ ms) [])) ≡ events_of (set_value test (m ∷ ms) [])
    by go true e = rw e (rw e refl)
    by go false e = rw e (rw e (ap (λ ys. map (at_time m.0) m.1 ++ ys) go))

-- where no event has the number, none is taken out
pub none_numbered : {A : Type 0} (n : ℕ) (xs : List (Event A)) → event_numbered n xs ≡ None → without_numbered n xs ≡ xs
none_numbered n [] none = refl
none_numbered {A} n (x ∷ xs) none = by (none_numbered n xs) (nat_eq x.number n) none
  where
    no : {X : Type 0} {y : X} → Some y ≡ None → ⊥
    no h = cc

    by : (event_numbered n xs ≡ None → without_numbered n xs ≡ xs) → (b : Bool) → (if b then Some x.what else event_numbered n xs) ≡ None
        → (if b then xs else x ∷ without_numbered n xs) ≡ x ∷ xs
    by go true h = absurd (no h)
    by go false h = ap (λ ys. x ∷ ys) (go h)

-- a list of no length, and one of some
pub left_none : {A : Type 0} (xs : List A) (b : Bool) → b ≡ (length xs == 0) → b ≡ true → xs ≡ []
left_none [] b is held = refl
left_none {A} (x ∷ xs) b is held = absurd (no (sym (longer (length xs)) ∙ sym is ∙ held))
  where
    longer : (k : ℕ) → (suc k == 0) ≡ false
    longer k = grind arith

    no : false ≡ true → ⊥
    no h = cc

pub left_some : {A : Type 0} (xs : List A) (b : Bool) → b ≡ (length xs == 0) → b ≡ false → xs ≢ []
left_some {A} xs b is not e = no (sym not ∙ is ∙ ap (λ ys. length ys == 0) e)
  where
    no : false ≡ true → ⊥
    no h = cc
