-- Pending events: what comes at which time, numbered in the order of making.
use Rattle.std.specs.Prelude.{◌≡◌, ℕ, suc, Bool, false, ◌&&◌, ◌||◌, List, [], ◌∷◌, nat_eq, nat_lt, if◌then◌else◌}
use Rattle.std.specs.List.{fold, AllByRecursion}
use Rattle.std.specs.declared.option.Option.{Option}
use Rattle.std.specs.declared.option.Option.TheVariants.{None, Some}

pub record Pending (A : Type 0) : Type 0 where
  pub time : ℕ
  pub number : ℕ
  pub what : A

-- of two events the one with the lesser time comes first, and at one time the one with the lesser number
abbrev pub comes_before : {A : Type 0} → Pending A → Pending A → Bool
comes_before x y = nat_lt x.time y.time || (nat_eq x.time y.time && nat_lt x.number y.number)

-- an event takes its place among others that stand in the order in which they come
abbrev pub placed : {A : Type 0} → Pending A → List (Pending A) → List (Pending A)
placed x [] = x ∷ []
placed x (y ∷ ys) = if comes_before x y then x ∷ y ∷ ys else y ∷ placed x ys

-- how many events were made, and those that are pending, in the order in which they come
pub record Queue (A : Type 0) : Type 0 where
  pub made : ℕ
  pub pending : List (Pending A)

-- no event was made yet
abbrev pub no_events : {A : Type 0} → Queue A
no_events = record { made = 0; pending = [] }

-- one more event is made, with the next number
abbrev pub with_event : {A : Type 0} → Queue A → (time : ℕ) → A → Queue A
with_event q t what = record { made = suc q.made; pending = placed (record { time = t; number = suc q.made; what = what }) q.pending }

-- whether an event has this time and this number
abbrev pub is_at : {A : Type 0} → (time number : ℕ) → Pending A → Bool
is_at t n x = nat_eq x.time t && nat_eq x.number n

-- what happens at the event of this time and number, where it is pending
abbrev pub event_at : {A : Type 0} → (time number : ℕ) → List (Pending A) → Option A
event_at t n [] = None
event_at t n (x ∷ xs) = if is_at t n x then Some x.what else event_at t n xs

-- the others
abbrev pub without_event : {A : Type 0} → (time number : ℕ) → List (Pending A) → List (Pending A)
without_event t n [] = []
without_event t n (x ∷ xs) = if is_at t n x then xs else x ∷ without_event t n xs

-- the time and number of the event that comes next
abbrev pub next_event : {A : Type 0} → List (Pending A) → Option (ℕ × ℕ)
next_event [] = None
next_event (x ∷ xs) = Some (x.time, x.number)

-- events in any order, each put in its place
abbrev pub in_order : {A : Type 0} → List (Pending A) → List (Pending A)
in_order xs = fold (λ ys x. placed x ys) [] xs

-- events in the order in which they come: none comes before one ahead of it
abbrev pub StandInOrder : {A : Type 0} → List (Pending A) → Type 0
StandInOrder [] = Unit {0}
StandInOrder (x ∷ xs) = AllByRecursion (λ y. comes_before y x ≡ false) xs × StandInOrder xs

-- a queue that is restored from its entries is equal to it
abbrev pub Restores : Type 0 → Type 0
Restores A = (q : Queue A) → StandInOrder q.pending → in_order q.pending ≡ q.pending
