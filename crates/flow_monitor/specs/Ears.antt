-- What monitors say, and what a line makes of a panel of them.
use Rattle.std.specs.Prelude.{◌≤◌, ℕ, zero, suc, List, [], ◌∷◌, Bool, true, false, length, nat_le, ◌&&◌, map, slice_index_or, if◌then◌else◌, IsTrue}
use Rattle.std.specs.List.{list_all}
use Rattle.std.specs.declared.option.Option.{Option}
use Rattle.std.specs.declared.option.Option.TheVariants.{None, Some}
use Rattle.flow_trace.specs.declared.line.Line.{Line}
use Rattle.flow_monitor.specs.declared.monitor.Heard.{Heard}
use Rattle.flow_monitor.specs.declared.monitor.Heard.TheVariants.{Go, Done, Stop}

-- 1 to 32 letters from a to z
pub record IsMonitorName (bytes : List ℕ) : Type 0 where
  pub letters : IsTrue (list_all (λ b. nat_le 97 b && nat_le b 122) bytes)
  pub least : 1 ≤ length bytes
  pub most : length bytes ≤ 32

-- what a monitor says at a line that comes after some others
abbrev pub Ear : Type 0
Ear = (before : List Line) → Line → Heard

-- the same, once it has heard one more line
abbrev pub ear_after : Line → Ear → Ear
ear_after line ear = λ before. ear (line ∷ before)

abbrev pub kept_if : Heard → Ear → Option Ear
kept_if Go ear = Some ear
kept_if Done ear = None
kept_if Stop ear = None

-- who says Done or Stop at a line hears no more
abbrev pub ear_hears : Line → Option Ear → Option Ear
ear_hears line None = None
ear_hears line (Some ear) = kept_if (ear [] line) (ear_after line ear)

abbrev pub is_stop : Heard → Bool
is_stop Stop = true
is_stop _ = false

-- who still hears says Stop at a line
abbrev pub says_stop : Line → Option Ear → Bool
says_stop line None = false
says_stop line (Some ear) = is_stop (ear [] line)

-- a monitor of a panel: its name, and what it says while it hears
pub record Listener : Type 0 where
  pub name : List ℕ
  pub ear : Option Ear

-- a panel: its monitors, numbered from 0
abbrev pub Ears : Type 0
Ears = List Listener

abbrev pub nobody : Listener
nobody = record { name = []; ear = None }

-- each that still hears hears a line
abbrev pub listener_after : Line → Listener → Listener
listener_after line l = record l { ear = ear_hears line l.ear }

abbrev pub after : Line → Ears → Ears
after line = map (listener_after line)

abbrev pub or_here : Option ℕ → (here : Bool) → ℕ → Option ℕ
or_here (Some i) here k = Some i
or_here None here k = if here then Some k else None

-- the first of the numbers below n whose monitor says Stop at a line
abbrev pub first_below : Line → Ears → ℕ → Option ℕ
first_below line ears zero = None
first_below line ears (suc n) = or_here (first_below line ears n) (says_stop line (slice_index_or ears n nobody).ear) n

-- the first that does
abbrev pub first_stop : Line → Ears → Option ℕ
first_stop line ears = first_below line ears (length ears)

-- the name of a number; numbers and names stay
abbrev pub name_at : Ears → ℕ → List ℕ
name_at ears k = (slice_index_or ears k nobody).name

abbrev pub names : Ears → List (List ℕ)
names = map (λ l. l.name)
