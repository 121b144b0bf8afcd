-- Worlds of many seeds, and each with a loss of power at each moment.
use Rattle.std.specs.Prelude.{ℕ, zero, suc, ◌+◌, ◌-◌, ◌*◌, ◌^◌, ◌≤◌, Bool, true, nat_lt, nat_le, List, [], ◌∷◌, ◌++◌, length, slice_get, if◌then◌else◌, IfSome}
use Rattle.std.specs.declared.option.Option.{Option}
use Rattle.std.specs.declared.option.Option.TheVariants.{None, Some}
use Rattle.flow_trace.specs.declared.line.Line.{Line}
use Rattle.flow_worldfile.specs.declared.directive.Order.TheVariants as order
use Rattle.flow_worldfile.specs.Worlds.{World, IsInRange, most_orders}
use Rattle.flow_storm.specs.declared.storm.Storm.{Storm}
use Rattle.flow_storm.specs.Storms.{storm_of}
use Rattle.flow_lab_monitors.specs.Watching.{event_time}
use Rattle.flow_family.specs.declared.family.Family.{Family}
use Rattle.flow_family.specs.declared.losses.PowerLoss.{PowerLoss}

-- a world with a seed, under its storm where there is one
abbrev pub by_storm : Option Storm → (seed : ℕ) → World → World
by_storm None seed w = record w { seed = seed }
by_storm (Some s) seed w = storm_of seed s.faults s.horizon w

abbrev pub world_of : Family → (seed : ℕ) → World → World
world_of f = by_storm f.storm

-- how many orders these may put behind a script
abbrev pub orders_of_storm : Option Storm → ℕ
orders_of_storm None = 0
orders_of_storm (Some s) = 2 * s.faults

abbrev pub orders_of_down : Option ℕ → ℕ
orders_of_down None = 0
orders_of_down (Some down) = 2

-- a world whose script has room for a family's faults
pub record IsFamily (f : Family) (w : World) : Type 0 where
  pub range : IsInRange w
  pub horizon : IfSome f.storm (λ s. s.horizon ≤ 1000000000)
  pub room : length w.script + orders_of_storm f.storm + orders_of_down f.down ≤ most_orders

-- a process goes down behind the script, and boots so many ticks later
abbrev pub with_loss : (down : ℕ) → PowerLoss → World → World
with_loss down l w = record w { script = w.script ++ (l.time, order.Kill l.process.0) ∷ (l.time + down, order.Boot l.process.0) ∷ [] }

-- whether it can boot
abbrev pub is_borne : (time down : ℕ) → Bool
is_borne time down = nat_le (time + down) (2 ^ 62)

-- The times at which the events of a trace come, each once. They never fall in a trace, so that a time that is later than all before it
-- is each new one.
abbrev pub later_than : (time : ℕ) → Option ℕ → Bool
later_than time None = true
later_than time (Some before) = nat_lt before time

abbrev pub is_later : (time : ℕ) → List ℕ → Bool
is_later time times = later_than time (slice_get times (length times - 1))

abbrev pub later_added : Option ℕ → List ℕ → List ℕ
later_added None times = times
later_added (Some time) times = if is_later time times then times ++ time ∷ [] else times

abbrev pub time_added : Line → List ℕ → List ℕ
time_added l times = later_added (event_time l) times

abbrev pub times_from : List ℕ → List Line → List ℕ
times_from times [] = times
times_from times (l ∷ ls) = times_from (time_added l times) ls

abbrev pub times_of : List Line → List ℕ
times_of = times_from []

-- a loss of power of a process at each of these times at which it can be
abbrev pub losses_at : (down process : ℕ) → (times : List ℕ) → List PowerLoss
losses_at down p [] = []
losses_at down p (t ∷ ts) =
    if is_borne t down then record { process = record { 0 = p }; time = t } ∷ losses_at down p ts else losses_at down p ts

-- of each of so many processes, by its number
abbrev pub losses_of : (down : ℕ) (times : List ℕ) → (processes : ℕ) → List PowerLoss
losses_of down times zero = []
losses_of down times (suc n) = losses_of down times n ++ losses_at down n times
