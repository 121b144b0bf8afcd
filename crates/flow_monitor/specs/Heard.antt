-- Which lines monitors hear, and the process that an event line names.
use Rattle.std.specs.Prelude.{Bool, true, false, ℕ}
use Rattle.std.specs.declared.option.Option.{Option}
use Rattle.std.specs.declared.option.Option.TheVariants.{None, Some}
use Rattle.flow_trace.specs.declared.line.Line.{Line}
use Rattle.flow_trace.specs.declared.line.Line.TheVariants.{Head, Boot, Kill, Stop, Cut, Heal, DiskFail, Timer, Arrival, Read, Write, Sync, Size, Frame, Callback, EndIdle, EndBound, EndSpent, EndStop}

-- whether monitors hear a line: each but the first and the last one of a trace, frames and callbacks
abbrev pub is_heard : Line → Bool
is_heard Head = false
is_heard (Frame p a class group) = false
is_heard (Callback p a k c) = false
is_heard EndIdle = false
is_heard EndBound = false
is_heard EndSpent = false
is_heard (EndStop name) = false
is_heard _ = true

-- the number of an event, by its line
abbrev pub event_number : Line → Option ℕ
event_number (Boot n t p) = Some n
event_number (Kill n t p) = Some n
event_number (Stop n t p) = Some n
event_number (Cut n t p q) = Some n
event_number (Heal n t p q) = Some n
event_number (DiskFail n t p k) = Some n
event_number (Timer n t p c) = Some n
event_number (Arrival n t q m) = Some n
event_number (Read n t p c x) = Some n
event_number (Write n t p c ok) = Some n
event_number (Sync n t p c ok) = Some n
event_number (Size n t p c x) = Some n
event_number _ = None

-- the process of an event, where its line names just one
abbrev pub event_process : Line → Option ℕ
event_process (Boot n t p) = Some p.0
event_process (Kill n t p) = Some p.0
event_process (Stop n t p) = Some p.0
event_process (DiskFail n t p k) = Some p.0
event_process (Timer n t p c) = Some p.0
event_process (Arrival n t q m) = Some q.0
event_process (Read n t p c x) = Some p.0
event_process (Write n t p c ok) = Some p.0
event_process (Sync n t p c ok) = Some p.0
event_process (Size n t p c x) = Some p.0
event_process _ = None

abbrev pub or_else : Option ℕ → ℕ → ℕ
or_else (Some p) q = p
or_else None q = q

-- the process of the last event line that names just one, by the one before this line
abbrev pub process_after : ℕ → Line → ℕ
process_after p line = or_else (event_process line) p
