-- Worlds whose run a monitor stops, and such a world of whose script no line can go.
use Rattle.std.specs.Prelude.{◌≡◌, ◌<◌, ◌+◌, ◌*◌, ℕ, Bool, true, false, not, if◌then◌else◌, List, [], ◌∷◌, length}
use Rattle.std.specs.List.{remove}
use Rattle.flow_trace.specs.declared.line.Line.{Line}
use Rattle.flow_trace.specs.declared.line.Line.TheVariants.{EndSpent}
use Rattle.flow_monitor.specs.declared.monitor.Heard.{Heard}
use Rattle.flow_monitor.specs.declared.monitor.Heard.TheVariants.{Go, Done, Stop}
use Rattle.flow_monitor.specs.Ears.{Ear, ear_after}
use Rattle.flow_monitor.specs.Cut.{is_boundary}
use Rattle.flow_monitor.specs.Heard.{is_heard}
use Rattle.flow_worldfile.specs.Worlds.{World, IsInRange, seen}
use Rattle.flow_shrink.specs.declared.shrinking.Shrunk.{Shrunk}
use Rattle.flow_shrink.specs.declared.shrinking.Shrunk.TheVariants.{Least, NotStopped}

-- How a monitor stands to the run that it hears: it hears on; it has heard enough; it said Stop in the event in progress; or that event
-- is over, and was spent, or the run is stopped.
pub data Hearing : Type 0 where
  hears : Ear → Hearing
  deaf : Hearing
  said : Hearing
  over : (stopped : Bool) → Hearing

-- by what it said at a line
abbrev pub by_said : Heard → Ear → Hearing
by_said Go ear = hears ear
by_said Done ear = deaf
by_said Stop ear = said

-- whether a line is the last one of a run whose last event was spent
abbrev pub is_spent : Line → Bool
is_spent EndSpent = true
is_spent _ = false

-- after one line more of the trace
abbrev pub after_line : Line → Hearing → Hearing
after_line l (hears ear) = if is_heard l then by_said (ear [] l) (ear_after l ear) else hears ear
after_line l deaf = deaf
after_line l said = if is_boundary l then over (not (is_spent l)) else said
after_line l (over stopped) = over stopped

abbrev pub after_lines : List Line → Hearing → Hearing
after_lines [] h = h
after_lines (l ∷ ls) h = after_lines ls (after_line l h)

abbrev pub is_stopped : Hearing → Bool
is_stopped (over stopped) = stopped
is_stopped _ = false

-- a trace in which a monitor says Stop, in an event that isn't spent
abbrev pub Stops : (lines_are : List Line → Type 0) → Ear → Type 0
Stops lines_are ear = (lines : List Line) × lines_are lines × (is_stopped (after_lines lines (hears ear)) ≡ true)

-- a world without the line of its script at a place
abbrev pub without : ℕ → World → World
without k w = record w { script = remove w.script k }

-- some items of others, in their order
pub data Among {X : Type 0} : List X → List X → Type 0 where
  none : Among [] []
  goes : {x : X} {xs ys : List X} → Among xs ys → Among xs (x ∷ ys)
  stays : {x : X} {xs ys : List X} → Among xs ys → Among (x ∷ xs) (x ∷ ys)

-- A world as the first one but for its script, which has some of its lines, that stops; and without any one of these it doesn't.
pub record IsLeast (IsStopped : World → Type 0) (first least : World) : Type 0 where
  pub same : least ≡ record first { script = least.script }
  pub fewer : Among least.script first.script
  pub stops : IsStopped least
  pub each : (k : ℕ) → k < length least.script → IsStopped (without k least) → ⊥

-- what shrinking a world comes to: it is not stopped exactly where that is said
abbrev pub Shrinks : (IsStopped : World → Type 0) → (first : World) → Shrunk → Type 0
Shrinks IsStopped first (Least w) = IsStopped first × IsLeast IsStopped first (seen w)
Shrinks IsStopped first NotStopped = IsStopped first → ⊥

-- how often a world of so many lines is run at most
abbrev pub most_runs : ℕ → ℕ
most_runs n = 1 + n * n

-- a world that it comes to is in range
abbrev pub KeepsRange : Shrunk → Type 0
KeepsRange (Least w) = IsInRange (seen w)
KeepsRange NotStopped = Unit {0}
