-- Faults that are drawn from a seed, behind the script of a world.
use Rattle.std.specs.Prelude.{ℕ, zero, suc, ◌+◌, ◌*◌, ◌-◌, ◌/◌, ◌%◌, ◌^◌, List, [], ◌∷◌, ◌++◌, min, nat_lt, nat_eq, if◌then◌else◌}
use Rattle.flow_draw.specs.Words.{Drawn, drawn_from, word_at}
use Rattle.flow_worldfile.specs.declared.directive.Order.{Order}
use Rattle.flow_worldfile.specs.declared.directive.Order.TheVariants as order
use Rattle.flow_worldfile.specs.Worlds.{World}
use Rattle.flow_storm.specs.declared.strike.Strike.{Strike}
use Rattle.flow_storm.specs.declared.strike.Fault.{Fault}
use Rattle.flow_storm.specs.declared.strike.Fault.TheVariants.{Crash, CutOff, Stop, Disk}

-- The words of a storm are those of its seed from this one on: no run takes so many, so that a storm and the run under it share none.
abbrev pub first_word : ℕ
first_word = 2 ^ 40

-- another one of so many processes, by a word; the same where there is no other
abbrev pub other_process : (process word processes : ℕ) → ℕ
other_process p word processes = if nat_eq processes 1 then p else (p + 1 + word % (processes - 1)) % processes

-- Of eight kinds of faults three crash a process, three cut a link (where there is one process, they crash it), one stops a process, and
-- one is the disk's.
abbrev pub fault_of : (kind processes : ℕ) → Fault
fault_of kind processes =
    if nat_lt kind 3 then Crash
    else if nat_lt kind 6 then (if nat_eq processes 1 then Crash else CutOff)
    else if nat_eq kind 6 then Stop
    else Disk

-- the fault that five words tell, in a world of so many processes, with times up to a horizon
abbrev pub strike_by : (word : ℕ → ℕ) → (processes horizon : ℕ) → Strike
strike_by word processes horizon = record {
  fault = fault_of (word 0 % 8) processes;
  process = record { 0 = word 1 % processes };
  other = record { 0 = other_process (word 1 % processes) (word 2) processes };
  time = word 3 % (horizon + 1);
  length = 1 + word 4 % (horizon / 8 + 1);
}

-- something that comes at the time of a fault, and something when it is over
abbrev pub then_later : Strike → (now later : Order) → List (ℕ × Order)
then_later s now later = (s.time, now) ∷ (s.time + s.length, later) ∷ []

-- what a fault orders
abbrev pub orders_of : Fault → Strike → List (ℕ × Order)
orders_of Crash s = then_later s (order.Kill s.process.0) (order.Boot s.process.0)
orders_of CutOff s = then_later s (order.Cut s.process.0 s.other.0) (order.Heal s.process.0 s.other.0)
orders_of Stop s = then_later s (order.Stop s.process.0) (order.Boot s.process.0)
orders_of Disk s = (s.time, order.DiskFail s.process.0 (min s.length 1000000)) ∷ []

abbrev pub orders : Strike → List (ℕ × Order)
orders s = orders_of s.fault s

-- fault i of a seed, from 0
abbrev pub strike_at : (seed processes horizon i : ℕ) → Strike
strike_at seed processes horizon i = strike_by (λ k. word_at seed [] (first_word + 5 * i + k)) processes horizon

-- the orders of the first faults of a seed, fault by fault
abbrev pub storm_orders : (seed processes horizon faults : ℕ) → List (ℕ × Order)
storm_orders seed processes horizon zero = []
storm_orders seed processes horizon (suc n) =
    storm_orders seed processes horizon n ++ orders (strike_at seed processes horizon n)

-- a world with so many faults of a seed behind the script
abbrev pub struck_by : (seed horizon faults : ℕ) → World → World
struck_by seed horizon faults w = record w { script = w.script ++ storm_orders seed w.processes horizon faults }

-- and with this seed
abbrev pub storm_of : (seed faults horizon : ℕ) → World → World
storm_of seed faults horizon w = record (struck_by seed horizon faults w) { seed = seed }

-- the draws of a storm after so many faults
abbrev pub storm_draws : (seed faults : ℕ) → Drawn
storm_draws seed faults = drawn_from seed [] (first_word + 5 * faults)
