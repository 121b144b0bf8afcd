-- What is left of a trace where a monitor says Stop.
use Rattle.std.specs.Prelude.{ℕ, Bool, true, false, ◌||◌, List, [], ◌∷◌, if◌then◌else◌}
use Rattle.std.specs.declared.option.Option.{Option}
use Rattle.std.specs.declared.option.Option.TheVariants.{None, Some}
use Rattle.flow_trace.specs.Groups.{is_event}
use Rattle.flow_trace.specs.declared.line.Line.{Line}
use Rattle.flow_trace.specs.declared.line.Line.TheVariants.{EndIdle, EndBound, EndSpent, EndStop}
use Rattle.flow_monitor.specs.Ears.{Ears, after, first_stop, name_at}
use Rattle.flow_monitor.specs.Heard.{is_heard}

-- whether a line ends a run
abbrev pub ends_run : Line → Bool
ends_run EndIdle = true
ends_run EndBound = true
ends_run EndSpent = true
ends_run (EndStop name) = true
ends_run _ = false

-- whether an event is over before a line: the next one begins or the run ends
abbrev pub is_boundary : Line → Bool
is_boundary l = is_event l || ends_run l

-- the panel after a line, and who of it says Stop at the line first
abbrev pub ears_after : Line → Ears → Ears
ears_after l ears = if is_heard l then after l ears else ears

abbrev pub stop_in : Line → Ears → Option ℕ
stop_in l ears = if is_heard l then first_stop l ears else None

-- the last line where a monitor said Stop, by the line that would have come: a spent event isn't stopped
abbrev pub closing : (name : List ℕ) → Line → Line
closing name EndSpent = EndSpent
closing name l = EndStop name

-- All lines while nobody says Stop; else those up to the end of the event, and the last line with the name of the first who did.
abbrev pub cut_from : (stop : Option ℕ) → Ears → List Line → List Line
cut_from stop ears [] = []
cut_from None ears (l ∷ ls) = l ∷ cut_from (stop_in l ears) (ears_after l ears) ls
cut_from (Some k) ears (l ∷ ls) = if is_boundary l then closing (name_at ears k) l ∷ [] else l ∷ cut_from (Some k) ears ls

abbrev pub Cut : Ears → List Line → List Line
Cut ears lines = cut_from None ears lines
