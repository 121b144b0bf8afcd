-- Events kept by their time are those in the order in which they come.
use Rattle.std.proofs.Common.{◌≡◌, ℕ, ◌<◌, ◌≤◌, List, [], ◌∷◌, ◌++◌, map, sym, ap, ◌∙◌, refl, None, Some, arith, subst}
use Rattle.std.specs.declared.cmp.Ordering.{Ordering}
use Rattle.std.specs.declared.cmp.Ordering.TheVariants.{Less, Equal, Greater}
use Rattle.std.specs.Ordering.{nat_cmp, is_eq}
use Rattle.std.specs.Prelude.{Bool, true, false, cond, nat_lt, nat_eq, ◌&&◌, ◌||◌, if◌then◌else◌}
use Rattle.std.specs.Prelude.{Result, Ok, Err, OnOk, OnErr, slice_get}
use Rattle.std.specs.List.{AllByRecursion}
use Rattle.std.specs.List.Sorted.{IsStrictlySortedBy}
use Rattle.std.specs.Map.{keys_of, lookup, set_value}
use Rattle.std.specs.BTreeMap.{is_at, insert_entry}
use Rattle.flow_timers.specs.declared.moment.Event.{Event}
use Rattle.flow_timers.specs.Pending.{Pending, placed, next_event}
use Rattle.flow_timers.specs.Moments.{numbered, at_time, events_of, first_number}

-- an event is placed behind all events of an earlier time
past_earlier : {A : Type 0} (p : Pending A) (s : ℕ) (xs : List (Event A)) (rest : List (Pending A)) → s < p.time
    → placed p (map (at_time s) xs ++ rest) ≡ map (at_time s) xs ++ placed p rest
past_earlier p s [] rest earlier = refl
past_earlier p s (x ∷ xs) rest earlier =
    let later : (nat_lt p.time s || (nat_eq p.time s && nat_lt p.number x.number)) ≡ false = grind (arith, earlier) in
    ap (λ b. if b then p ∷ at_time s x ∷ (map (at_time s) xs ++ rest) else at_time s x ∷ placed p (map (at_time s) xs ++ rest)) later
    ∙ ap (λ ys. at_time s x ∷ ys) (past_earlier p s xs rest earlier)

pub less : (a b : ℕ) → nat_cmp a b ≡ Less → a < b
less a b e = grind (arith, e)

pub same : (a b : ℕ) → nat_cmp a b ≡ Equal → a ≡ b
same a b e = grind (arith, e)

pub more : (a b : ℕ) → nat_cmp a b ≡ Greater → b < a
more a b e = grind (arith, e)

-- before all events of later times
before_later : {A : Type 0} (p : Pending A) (ms : List (ℕ × List (Event A))) → AllByRecursion (λ s. nat_cmp p.time s ≡ Less) (keys_of ms)
    → placed p (events_of ms) ≡ p ∷ events_of ms
before_later p [] later = refl
before_later p ((s, []) ∷ ms) later = before_later p ms later.1
before_later p ((s, x ∷ xs) ∷ ms) later =
    let below : p.time < s = less p.time s later.0 in
    let first : (nat_lt p.time s || (nat_eq p.time s && nat_lt p.number x.number)) ≡ true = grind (arith, below) in
    ap (λ b. if b then p ∷ at_time s x ∷ (map (at_time s) xs ++ events_of ms) else at_time s x ∷ placed p (map (at_time s) xs ++ events_of ms)) first

-- at its own time an event takes the place of its number
within_time : {A : Type 0} (t : ℕ) (x : Event A) (xs : List (Event A)) (rest : List (Pending A))
    → placed (at_time t x) rest ≡ at_time t x ∷ rest
    → placed (at_time t x) (map (at_time t) xs ++ rest) ≡ map (at_time t) (numbered x xs) ++ rest
within_time t x [] rest first = first
within_time t x (y ∷ ys) rest first =
    let by_number : (nat_lt t t || (nat_eq t t && nat_lt x.number y.number)) ≡ nat_lt x.number y.number = grind arith in
    ap (λ b. if b then at_time t x ∷ at_time t y ∷ (map (at_time t) ys ++ rest) else at_time t y ∷ placed (at_time t x) (map (at_time t) ys ++ rest)) by_number
    ∙ branches (within_time t x ys rest first) (nat_lt x.number y.number)
  where
    branches : placed (at_time t x) (map (at_time t) ys ++ rest) ≡ map (at_time t) (numbered x ys) ++ rest
        → (b : Bool) → (if b then at_time t x ∷ at_time t y ∷ (map (at_time t) ys ++ rest) else at_time t y ∷ placed (at_time t x) (map (at_time t) ys ++ rest))
        ≡ map (at_time t) (if b then x ∷ y ∷ ys else y ∷ numbered x ys) ++ rest
    branches go true = refl
    branches go false = ap (λ zs. at_time t y ∷ zs) go

-- later than one time, later than an earlier one
pub all_later : (t s : ℕ) (ks : List ℕ) → t ≤ s → AllByRecursion (λ k. nat_cmp s k ≡ Less) ks → AllByRecursion (λ k. nat_cmp t k ≡ Less) ks
all_later t s [] le later = later
all_later t s (k ∷ ks) le (first, rest) =
    let below : s < k = less s k first in
    (grind (arith, le, below), all_later t s ks le rest)

pub not_later : {X : Type 0} (t : ℕ) (ms : List (ℕ × X)) → AllByRecursion (λ k. nat_cmp t k ≡ Less) (keys_of ms) → lookup (is_at (nat_cmp t)) ms ≡ None
not_later t [] later = refl
not_later t (m ∷ ms) (first, rest) = rw first (not_later t ms rest)

-- an event of a new time
pub at_new_time : {A : Type 0} (t : ℕ) (x : Event A) (ms : List (ℕ × List (Event A))) → IsStrictlySortedBy nat_cmp (keys_of ms)
    → lookup (is_at (nat_cmp t)) ms ≡ None
    → events_of (insert_entry nat_cmp ms t (x ∷ [])) ≡ placed (at_time t x) (events_of ms)
unfolding IsStrictlySortedBy
at_new_time t x [] sorted none = refl
at_new_time {A} t x (m ∷ ms) sorted none = by (at_new_time t x ms sorted.1) (nat_cmp t m.0) refl
  where
    by : (lookup (is_at (nat_cmp t)) ms ≡ None → events_of (insert_entry nat_cmp ms t (x ∷ [])) ≡ placed (at_time t x) (events_of ms))
        → (o : Ordering) → nat_cmp t m.0 ≡ o → events_of (insert_entry nat_cmp (m ∷ ms) t (x ∷ [])) ≡ placed (at_time t x) (events_of (m ∷ ms))
    by go Less e = rw e (sym (before_later (at_time t x) (m ∷ ms) (e, all_later t m.0 (keys_of ms) (grind (arith, e)) sorted.0)))
    by go Equal e = absurd (no (subst (λ o. cond (is_eq o) (Some m.1) (lookup (is_at (nat_cmp t)) ms) ≡ None) e none))
      where
        no : Some m.1 ≡ None → ⊥
        no h = cc
    by go Greater e =
        let rest = go (subst (λ o. cond (is_eq o) (Some m.1) (lookup (is_at (nat_cmp t)) ms) ≡ None) e none) in
        rw e (ap (λ ys. map (at_time m.0) m.1 ++ ys) rest ∙ sym (past_earlier (at_time t x) m.0 m.1 (events_of ms) (more t m.0 e)))

-- an event of a time that others have
pub at_same_time : {A : Type 0} (t : ℕ) (x : Event A) (ms : List (ℕ × List (Event A))) (old : List (Event A)) → IsStrictlySortedBy nat_cmp (keys_of ms)
    → lookup (is_at (nat_cmp t)) ms ≡ Some old
    → events_of (set_value (is_at (nat_cmp t)) ms (numbered x old)) ≡ placed (at_time t x) (events_of ms)
unfolding IsStrictlySortedBy
at_same_time t x [] old sorted found = absurd (no found)
  where
    no : {X : Type 0} {y : X} → None ≡ Some y → ⊥
    no h = cc
at_same_time {A} t x (m ∷ ms) old sorted found = by (at_same_time t x ms old sorted.1) (nat_cmp t m.0) refl
  where
    no : {X : Type 0} {y : X} → None ≡ Some y → ⊥
    no h = cc

    some : {X : Type 0} {y z : X} → Some y ≡ Some z → y ≡ z
    some h = cc

    here : (o : Ordering) → nat_cmp t m.0 ≡ o → cond (is_eq o) (Some m.1) (lookup (is_at (nat_cmp t)) ms) ≡ Some old
    here o e = subst (λ p. cond (is_eq p) (Some m.1) (lookup (is_at (nat_cmp t)) ms) ≡ Some old) e found

    by : (lookup (is_at (nat_cmp t)) ms ≡ Some old → events_of (set_value (is_at (nat_cmp t)) ms (numbered x old)) ≡ placed (at_time t x) (events_of ms))
        → (o : Ordering) → nat_cmp t m.0 ≡ o → events_of (set_value (is_at (nat_cmp t)) (m ∷ ms) (numbered x old)) ≡ placed (at_time t x) (events_of (m ∷ ms))
    by go Less e = absurd (no (sym (not_later t ms (all_later t m.0 (keys_of ms) (grind (arith, e)) sorted.0)) ∙ here Less e))
    by go Equal e =
        let is : t ≡ m.0 = same t m.0 e in
        let old_is : m.1 ≡ old = some (here Equal e) in
        let later = subst (λ s. AllByRecursion (λ k. nat_cmp s k ≡ Less) (keys_of ms)) (sym is) sorted.0 in
        rw e (subst (λ s. map (at_time s) (numbered x old) ++ events_of ms ≡ placed (at_time t x) (map (at_time s) m.1 ++ events_of ms)) is
        (subst (λ ys. map (at_time t) (numbered x old) ++ events_of ms ≡ placed (at_time t x) (map (at_time t) ys ++ events_of ms)) (sym old_is)
        (sym (within_time t x old (events_of ms) (before_later (at_time t x) ms later)))))
    by go Greater e =
        let rest = go (here Greater e) in
        rw e (ap (λ ys. map (at_time m.0) m.1 ++ ys) rest ∙ sym (past_earlier (at_time t x) m.0 m.1 (events_of ms) (more t m.0 e)))

pub on_ok : {X E P Q : Type 0} (r : Result X E) → (P → Q) → OnOk r P → OnOk r Q
on_ok (Ok x) f p = f p
on_ok (Err e) f p = p

pub on_err : {X E P Q : Type 0} (r : Result X E) → (P → Q) → OnErr r P → OnErr r Q
on_err (Ok x) f p = p
on_err (Err e) f p = f p

-- a value that is put back changes nothing
pub put_back : {X : Type 0} (t : ℕ) (ms : List (ℕ × X)) (old : X) → lookup (is_at (nat_cmp t)) ms ≡ Some old → set_value (is_at (nat_cmp t)) ms old ≡ ms
put_back t [] old found = refl
put_back {X} t (m ∷ ms) old found = by (put_back t ms old) (is_at (nat_cmp t) m.0) refl
  where
    some : {Y : Type 0} {y z : Y} → Some y ≡ Some z → y ≡ z
    some h = cc

    here : (b : Bool) → is_at (nat_cmp t) m.0 ≡ b → cond b (Some m.1) (lookup (is_at (nat_cmp t)) ms) ≡ Some old
    here b e = subst (λ p. cond p (Some m.1) (lookup (is_at (nat_cmp t)) ms) ≡ Some old) e found

    by : (lookup (is_at (nat_cmp t)) ms ≡ Some old → set_value (is_at (nat_cmp t)) ms old ≡ ms) → (b : Bool) → is_at (nat_cmp t) m.0 ≡ b → set_value (is_at (nat_cmp t)) (m ∷ ms) old ≡ m ∷ ms
    by go true e = rw e (ap (λ y. (m.0, y) ∷ ms) (sym (some (here true e))))
    by go false e = rw e (ap (λ ys. m ∷ ys) (go (here false e)))

-- the first event of the first time comes next
pub first_is : {A : Type 0} (ms : List (ℕ × List (Event A))) (t : ℕ) (xs : List (Event A)) (n : ℕ) → slice_get ms 0 ≡ Some (t, xs)
    → Some n ≡ first_number xs → Some (t, n) ≡ next_event (events_of ms)
first_is [] t xs n e h = absurd (no e)
  where
    no : {X : Type 0} {y : X} → None ≡ Some y → ⊥
    no h = cc
first_is {A} (m ∷ ms) t xs n e h = subst (λ s. Some (s, n) ≡ next_event (events_of (m ∷ ms))) (ap (λ p. p.0) is) (go m.1 (h ∙ ap (λ p. first_number p.1) (sym is)))
  where
    some : {Y : Type 0} {y z : Y} → Some y ≡ Some z → y ≡ z
    some h = cc

    no : {X : Type 0} {y : X} → Some y ≡ None → ⊥
    no h = cc

    is : m ≡ (t, xs)
    is = some e

    go : (ys : List (Event A)) → Some n ≡ first_number ys → Some (m.0, n) ≡ next_event (map (at_time m.0) ys ++ events_of ms)
    go [] h = absurd (no h)
    go (y ∷ ys) h = ap (λ k. Some (m.0, k)) (some h)
