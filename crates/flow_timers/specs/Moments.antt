-- Pending events, kept by their time.
use Rattle.std.specs.Prelude.{ℕ, List, [], ◌∷◌, ◌++◌, map, nat_eq, nat_lt, if◌then◌else◌}
use Rattle.std.specs.declared.option.Option.{Option}
use Rattle.std.specs.declared.option.Option.TheVariants.{None, Some}
use Rattle.std.specs.Borrow.{Bor}
use Rattle.flow_timers.specs.declared.moment.Event.{Event}
use Rattle.flow_timers.specs.Pending.{Pending}

-- an event takes its place among those of its time, which stand in the order of their numbers
abbrev pub numbered : {A : Type 0} → Event A → List (Event A) → List (Event A)
numbered x [] = x ∷ []
numbered x (y ∷ ys) = if nat_lt x.number y.number then x ∷ y ∷ ys else y ∷ numbered x ys

-- what happens at the first event of this number
abbrev pub event_numbered : {A : Type 0} → ℕ → List (Event A) → Option A
event_numbered n [] = None
event_numbered n (x ∷ xs) = if nat_eq x.number n then Some x.what else event_numbered n xs

-- the others
abbrev pub without_numbered : {A : Type 0} → ℕ → List (Event A) → List (Event A)
without_numbered n [] = []
without_numbered n (x ∷ xs) = if nat_eq x.number n then xs else x ∷ without_numbered n xs

-- the number of the first event
abbrev pub first_number : {A : Type 0} → List (Event A) → Option ℕ
first_number [] = None
first_number (x ∷ xs) = Some x.number

-- an entry that lends what happens
abbrev pub pending_of : {A : Type 0} → ℕ × ℕ × Bor A → Pending A
pending_of e = record { time = e.0; number = e.1; what = e.2.now }

-- an entry as an event
abbrev pub event_of : {A : Type 0} → ℕ × ℕ × A → Pending A
event_of e = record { time = e.0; number = e.1; what = e.2 }

-- the event with its time
abbrev pub at_time : {A : Type 0} → ℕ → Event A → Pending A
at_time t x = record { time = t; number = x.number; what = x.what }

-- the events of all times, in the order in which they come
abbrev pub events_of : {A : Type 0} → List (ℕ × List (Event A)) → List (Pending A)
events_of [] = []
events_of (m ∷ ms) = map (at_time m.0) m.1 ++ events_of ms
