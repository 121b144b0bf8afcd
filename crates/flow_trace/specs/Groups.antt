-- The lines of events, and those that tell what an actor does.
use Rattle.std.specs.Prelude.{Bool, true, false}
use Rattle.flow_trace.specs.declared.line.Line.{Line}
use Rattle.flow_trace.specs.declared.line.Line.TheVariants.{Boot, Kill, Stop, Cut, Heal, DiskFail, Timer, Arrival, Read, Write, Sync, Size, Start, Wait, Take, Throw, Catch, Fail, Finish, Cancel, Broken, PrintInt, PrintBool, PrintText}

-- whether a line is an event's
abbrev pub is_event : Line → Bool
is_event (Boot n t p) = true
is_event (Kill n t p) = true
is_event (Stop n t p) = true
is_event (Cut n t p q) = true
is_event (Heal n t p q) = true
is_event (DiskFail n t p k) = true
is_event (Timer n t p c) = true
is_event (Arrival n t q m) = true
is_event (Read n t p c x) = true
is_event (Write n t p c ok) = true
is_event (Sync n t p c ok) = true
is_event (Size n t p c x) = true
is_event _ = false

-- whether a line tells what an actor does
abbrev pub is_deed : Line → Bool
is_deed (Start a class) = true
is_deed (Wait a group) = true
is_deed (Take a group branch) = true
is_deed (Throw a e) = true
is_deed (Catch a e) = true
is_deed (Fail a e) = true
is_deed (Finish a) = true
is_deed (Cancel a) = true
is_deed (Broken c) = true
is_deed (PrintInt a value) = true
is_deed (PrintBool a value) = true
is_deed (PrintText a bytes) = true
is_deed _ = false
