-- The place of a number among events of rising numbers.
use Rattle.std.proofs.Common.{◌≡◌, ◌≢◌, ℕ, zero, suc, ◌+◌, ◌-◌, ◌<◌, ◌≤◌, List, [], ◌∷◌, length, get_or, sym, ap, ◌∙◌, refl, ltb-true, ltb-false, zero-le, le_refl, None, Some, arith}
use Rattle.std.specs.Prelude.{Bool, true, false, nat_lt, nat_eq, if◌then◌else◌}
use Rattle.std.specs.List.{insert, remove, AllWithin}
use Rattle.std.specs.List.Sorted.{IsNonDecreasingBy}
use Rattle.std.proofs.lemmas.List.Edits.{get_or-remove_below, get_or-remove_above, length-remove}
use Rattle.flow_timers.specs.declared.moment.Event.{Event}
use Rattle.flow_timers.specs.Moments.{numbered, event_numbered, without_numbered}

-- put behind the numbers up to its own, and before those above it, an event is in its place
pub put_in_place : {A : Type 0} (x : Event A) (xs : List (Event A)) (k : ℕ) → k ≤ length xs
    → AllWithin (λ e. e.number ≤ x.number) xs 0 k → AllWithin (λ e. x.number < e.number) xs k (length xs)
    → insert xs k x ≡ numbered x xs
put_in_place x [] zero bound below above = refl
put_in_place x [] (suc k) bound below above = absurd (omega arith)
put_in_place x (y ∷ ys) zero bound below above =
    let first : x.number < y.number = above 0 y (omega arith) (omega arith) in
    grind (arith, first)
put_in_place x (y ∷ ys) (suc k) bound below above =
    let first : y.number ≤ x.number = below 0 y (omega arith) (omega arith) in
    let rest = put_in_place x ys k (omega arith)
    (λ i d low high. below (suc i) d (omega arith) (omega arith))
    (λ i d low high. above (suc i) d (omega arith) (omega arith)) in
    grind (arith, first, rest)

-- where no event has the number, there is nothing to take
pub nothing_there : {A : Type 0} (n : ℕ) (xs : List (Event A)) → AllWithin (λ e. e.number ≢ n) xs 0 (length xs)
    → (None ≡ event_numbered n xs) × (xs ≡ without_numbered n xs)
nothing_there n [] other = (refl, refl)
nothing_there n (y ∷ ys) other =
    let first : y.number ≢ n = other 0 y (omega arith) (omega arith) in
    let rest = nothing_there n ys (λ i d low high. other (suc i) d (omega arith) (omega arith)) in
    (grind (arith, first, rest.0), grind (arith, first, rest.1))

differs : (a n : ℕ) → a < n → nat_eq a n ≡ false
differs a n below = grind (arith, below)

-- behind the lesser numbers the event of a number is the first that has it
pub there : {A : Type 0} (n : ℕ) (xs : List (Event A)) (k : ℕ) (d : Event A) → k < length xs
    → AllWithin (λ e. e.number < n) xs 0 k → (get_or xs k d).number ≡ n
    → (Some (get_or xs k d).what ≡ event_numbered n xs) × (remove xs k ≡ without_numbered n xs)
there n [] k d bound below is = absurd (omega arith)
there n (y ∷ ys) zero d bound below is =
    let found : nat_eq y.number n ≡ true = grind (arith, is) in
    (ap (λ b. if b then Some y.what else event_numbered n ys) (sym found), ap (λ b. if b then ys else y ∷ without_numbered n ys) (sym found))
there n (y ∷ ys) (suc k) d bound below is =
    let first : y.number < n = below 0 y (omega arith) (omega arith) in
    let rest = there n ys k d (omega arith) (λ i e low high. below (suc i) e (omega arith) (omega arith)) is in
    let other : nat_eq y.number n ≡ false = differs y.number n first in (
      rest.0 ∙ ap (λ b. if b then Some y.what else event_numbered n ys) (sym other),
      ap (λ zs. y ∷ zs) rest.1 ∙ ap (λ b. if b then ys else y ∷ without_numbered n ys) (sym other),
    )

there_was : ℕ → ℕ → ℕ
there_was k i = if nat_lt i k then i else i + 1

kept : {A : Type 0} (xs : List A) (k i : ℕ) (d : A) → k < length xs → (b : Bool) → nat_lt i k ≡ b
    → get_or (remove xs k) i d ≡ get_or xs (there_was k i) d
unfolding there_was
kept xs k i d bound true e = get_or-remove_below xs k d i (ltb-true _ _ e) bound ∙ ap (λ b. get_or xs (if b then i else i + 1) d) (sym e)
kept xs k i d bound false e = get_or-remove_above xs k d i (ltb-false _ _ e) bound ∙ ap (λ b. get_or xs (if b then i else i + 1) d) (sym e)

later : (k i j : ℕ) → i ≤ j → there_was k i ≤ there_was k j
unfolding there_was
later k i j le = grind (arith, le)

inside : (k j n : ℕ) → j + 1 < n → there_was k j < n
unfolding there_was
inside k j n lt = grind (arith, lt)

-- without one event the numbers still rise
pub rising_without : {A : Type 0} (xs : List (Event A)) (k : ℕ) → k < length xs → IsNonDecreasingBy (λ e. e.number) xs
    → IsNonDecreasingBy (λ e. e.number) (remove xs k)
rising_without xs k bound rises i j d le lt =
    let fewer : length (remove xs k) + 1 ≡ length xs = length-remove xs k bound in
    rw (kept xs k i d bound _ refl, kept xs k j d bound _ refl) (rises (there_was k i) (there_was k j) d (later k i j le) (inside k j (length xs) (omega (arith, fewer))))

-- inside a list what would be read past its end doesn't matter
pub any_default : {A : Type 0} (xs : List A) (i : ℕ) (d e : A) → i < length xs → get_or xs i d ≡ get_or xs i e
any_default [] i d e lt = absurd (omega arith)
any_default (y ∷ ys) zero d e lt = refl
any_default (y ∷ ys) (suc i) d e lt = any_default ys i d e (omega arith)

-- behind the lesser numbers, where the first of the others is greater, no event has the number
pub nothing_at : {A : Type 0} (n : ℕ) (xs : List (Event A)) (k : ℕ) (x : Event A) → k < length xs → IsNonDecreasingBy (λ e. e.number) xs
    → AllWithin (λ e. e.number < n) xs 0 k → AllWithin (λ e. n ≤ e.number) xs k (length xs) → x ≡ get_or xs k x → x.number ≢ n
    → (None ≡ event_numbered n xs) × (xs ≡ without_numbered n xs)
nothing_at {A} n xs k x bound rises below from is other = nothing_there n xs (λ i d low high e. by i d high e (nat_lt i k) refl)
  where
    by : (i : ℕ) (d : Event A) → i < length xs → (get_or xs i d).number ≡ n → (b : Bool) → nat_lt i k ≡ b → ⊥
    by i d high e true t = let less = below i d zero-le (ltb-true i k t) in omega (arith, less, e)
    by i d high e false t =
        let up = rises k i d (ltb-false i k t) high in
        let low = from k d (le_refl k) bound in
        let same : get_or xs k d ≡ x = any_default xs k d x bound ∙ sym is in
        other (ap (λ y. y.number) (sym same) ∙ omega (arith, up, low, e))

-- where the last number is no greater than a number, all are, and where the first is no less, none is
pub all_up_to : {A : Type 0} (n : ℕ) (xs : List (Event A)) (x : Event A) → IsNonDecreasingBy (λ e. e.number) xs → x ≡ get_or xs (length xs - 1) x → x.number ≤ n
    → AllWithin (λ e. e.number ≤ n) xs 0 (length xs)
all_up_to n xs x rises is up k d low high =
    let last = any_default xs (length xs - 1) x d (omega (arith, high)) in
    let most = rises k (length xs - 1) d (omega (arith, high)) (omega (arith, high)) in
    omega (arith, most, ap (λ e. e.number) (is ∙ last), up)

pub all_from : {A : Type 0} (n : ℕ) (xs : List (Event A)) (x : Event A) → IsNonDecreasingBy (λ e. e.number) xs → x ≡ get_or xs 0 x → n ≤ x.number
    → AllWithin (λ e. n ≤ e.number) xs 0 (length xs)
all_from n xs x rises is low k d from high =
    let first = any_default xs 0 x d (omega (arith, high)) in
    let least = rises 0 k d from high in
    omega (arith, least, ap (λ e. e.number) (is ∙ first), low)
