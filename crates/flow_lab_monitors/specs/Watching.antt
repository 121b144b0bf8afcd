-- The monitors throws, held and late.
use Rattle.std.specs.Prelude.{ℕ, List, [], ◌∷◌, replicate, get_or, set, nat_lt, nat_eq, if◌then◌else◌}
use Rattle.std.specs.List.{sum}
use Rattle.std.specs.declared.option.Option.{Option}
use Rattle.std.specs.declared.option.Option.TheVariants.{None, Some}
use Rattle.flow_trace.specs.declared.line.Line.{Line}
use Rattle.flow_trace.specs.declared.line.Line.TheVariants as line
use Rattle.flow_monitor.specs.declared.monitor.Heard.{Heard}
use Rattle.flow_monitor.specs.declared.monitor.Heard.TheVariants.{Go, Stop}
use Rattle.flow_monitor.specs.Ears.{Ear}
use Rattle.flow_monitor.specs.Heard.{process_after}
use Rattle.flow_monitor.specs.Shipped.{ear_of, one_more, one_less, stop_above, stop_at}
use Rattle.flow_lab_monitors.specs.declared.held.Change.{Change}
use Rattle.flow_lab_monitors.specs.declared.held.Change.TheVariants.{Got, Given, Lost, Stays}

-- what is said by a limit alone
abbrev pub ear_by : (says : Line → ℕ → Heard) → (limit : ℕ) → Ear
ear_by = ear_of (λ l limit. limit)

-- throws: it says Stop at the throw of the error that is its limit
abbrev pub throws_says : Line → (limit : ℕ) → Heard
throws_says (line.Throw a e) limit = stop_at limit (Some e.0)
throws_says _ limit = Go

abbrev pub throws_ear : (limit : ℕ) → Ear
throws_ear = ear_by throws_says

-- the time of an event, by its line
abbrev pub event_time : Line → Option ℕ
event_time (line.Boot n t p) = Some t
event_time (line.Kill n t p) = Some t
event_time (line.Stop n t p) = Some t
event_time (line.Cut n t p q) = Some t
event_time (line.Heal n t p q) = Some t
event_time (line.DiskFail n t p k) = Some t
event_time (line.Timer n t p c) = Some t
event_time (line.Arrival n t q m) = Some t
event_time (line.Read n t p c x) = Some t
event_time (line.Write n t p c ok) = Some t
event_time (line.Sync n t p c ok) = Some t
event_time (line.Size n t p c x) = Some t
event_time _ = None

-- late: it says Stop at an event whose time is above its limit
abbrev pub stop_after : (limit : ℕ) → Option ℕ → Heard
stop_after limit None = Go
stop_after limit (Some t) = stop_above limit t

abbrev pub late_ear : (limit : ℕ) → Ear
late_ear = ear_by (λ l limit. stop_after limit (event_time l))

-- held: how many things each process says that it holds, the process of the last event line that names just one, and the limit
pub record HeldState : Type 0 where
  pub counts : List ℕ
  pub process : ℕ
  pub limit : ℕ

abbrev pub held_of : (counts : List ℕ) → (process limit : ℕ) → HeldState
held_of counts process limit = record { counts = counts; process = process; limit = limit }

abbrev pub held_first : (limit : ℕ) → HeldState
held_first = held_of (replicate 256 0) 0

-- what a printed text says: by `+` that a thing was got, by `-` that it was given back
abbrev pub sign_says : ℕ → Change
sign_says sign = if nat_eq sign 43 then Got else if nat_eq sign 45 then Given else Stays

abbrev pub text_says : List ℕ → Change
text_says [] = Stays
text_says (sign ∷ rest) = sign_says sign

abbrev pub change_of : Line → Change
change_of (line.PrintText a text) = text_says text
change_of (line.Kill n t q) = Lost q
change_of _ = Stays

abbrev pub counts_changed : Change → (process : ℕ) → List ℕ → List ℕ
counts_changed Got p counts = set counts p (one_more (get_or counts p 0))
counts_changed Given p counts = set counts p (one_less (get_or counts p 0))
counts_changed (Lost q) p counts = set counts q.0 0
counts_changed Stays p counts = counts

abbrev pub held_step : Line → HeldState → HeldState
held_step l s = held_of (counts_changed (change_of l) s.process s.counts) (process_after s.process l) s.limit

-- it says Stop where the sum is above the limit
abbrev pub held_says : Line → HeldState → Heard
held_says l s = stop_above s.limit (sum s.counts)

abbrev pub held_ear : HeldState → Ear
held_ear = ear_of held_step held_says
