-- The monitors live, errors and until: states that are stepped by lines.
use Rattle.std.specs.Prelude.{ℕ, ◌+◌, ◌-◌, ◌^◌, List, [], ◌∷◌, min, replicate, get_or, set, nat_lt, nat_eq, if◌then◌else◌}
use Rattle.std.specs.List.{sum}
use Rattle.std.specs.declared.option.Option.{Option}
use Rattle.std.specs.declared.option.Option.TheVariants.{None, Some}
use Rattle.flow_trace.specs.declared.line.Line.{Line}
use Rattle.flow_trace.specs.declared.line.Line.TheVariants as line
use Rattle.flow_monitor.specs.declared.monitor.Heard.{Heard}
use Rattle.flow_monitor.specs.declared.monitor.Heard.TheVariants.{Go, Done, Stop}
use Rattle.flow_monitor.specs.Ears.{Ear}
use Rattle.flow_monitor.specs.Heard.{event_number, process_after}

-- what is said at a line that comes after others, by a state that each of them steps
abbrev pub ear_of : {S : Type 0} → (step : Line → S → S) → (says : Line → S → Heard) → S → Ear
ear_of step says s [] line = says line (step line s)
ear_of step says s (first ∷ rest) line = ear_of step says (step first s) rest line

abbrev pub stop_above : (limit count : ℕ) → Heard
stop_above limit count = if nat_lt limit count then Stop else Go

-- one more, up to 2^64 - 1, and one less, where there is one
abbrev pub one_more : ℕ → ℕ
one_more n = min (n + 1) (2 ^ 64 - 1)

abbrev pub one_less : ℕ → ℕ
one_less n = n - 1

-- live: how many actors live by each process's lines, the process of the last event line that names just one, and the limit
pub record LiveState : Type 0 where
  pub counts : List ℕ
  pub process : ℕ
  pub limit : ℕ

abbrev pub live_of : (counts : List ℕ) → (process limit : ℕ) → LiveState
live_of counts process limit = record { counts = counts; process = process; limit = limit }

abbrev pub live_first : (limit : ℕ) → LiveState
live_first = live_of (replicate 256 0) 0

abbrev pub counts_after : Line → (process : ℕ) → List ℕ → List ℕ
counts_after (line.Start a class) p counts = set counts p (one_more (get_or counts p 0))
counts_after (line.Finish a) p counts = set counts p (one_less (get_or counts p 0))
counts_after (line.Fail a e) p counts = set counts p (one_less (get_or counts p 0))
counts_after (line.Kill n t q) p counts = set counts q.0 0
counts_after _ p counts = counts

abbrev pub live_step : Line → LiveState → LiveState
live_step l s = live_of (counts_after l s.process s.counts) (process_after s.process l) s.limit

-- it says Stop where the sum is above the limit
abbrev pub live_says : Line → LiveState → Heard
live_says l s = stop_above s.limit (sum s.counts)

abbrev pub live_ear : LiveState → Ear
live_ear = ear_of live_step live_says

-- errors: how many were thrown, and the limit
pub record ErrorsState : Type 0 where
  pub thrown : ℕ
  pub limit : ℕ

abbrev pub errors_step : Line → ErrorsState → ErrorsState
errors_step (line.Throw a e) s = record s { thrown = one_more s.thrown }
errors_step _ s = s

-- it says Stop at the throw by which their number is above the limit, and Done at a kill
abbrev pub errors_says : Line → ErrorsState → Heard
errors_says (line.Throw a e) s = stop_above s.limit s.thrown
errors_says (line.Kill n t p) s = Done
errors_says _ s = Go

abbrev pub errors_ear : ErrorsState → Ear
errors_ear = ear_of errors_step errors_says

-- until: it says Stop at the event line whose number is the limit
abbrev pub stop_at : (limit : ℕ) → Option ℕ → Heard
stop_at limit None = Go
stop_at limit (Some n) = if nat_eq n limit then Stop else Go

abbrev pub until_ear : (limit : ℕ) → Ear
until_ear = ear_of (λ l limit. limit) (λ l limit. stop_at limit (event_number l))
