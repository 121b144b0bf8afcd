-- What is marked of a line: its event, and what is told.
use Rattle.std.specs.Prelude.{ℕ, List, ◌++◌, map, codes, decimal}
use Rattle.std.specs.Fmt.{signed_decimal}
use Rattle.std.specs.declared.option.Option.{Option}
use Rattle.std.specs.declared.option.Option.TheVariants.{None, Some}
use Rattle.flow_base.specs.Quote.{quoted}
use Rattle.flow_trace.specs.Bytes.{spelled, joined, truth, fields}
use Rattle.flow_trace.specs.declared.line.Line.{Line}
use Rattle.flow_trace.specs.declared.line.Line.TheVariants.{Boot, Kill, Stop, Cut, Heal, DiskFail, Timer, Arrival, Read, Write, Sync, Size, Fail, Cancel, PrintInt, PrintBool, PrintText, Discard, Kept, EndIdle, EndBound, EndSpent, EndStop}
use Rattle.flow_chart.specs.declared.spot.Moment.{Moment}
use Rattle.flow_chart.specs.declared.spot.Tone.{Tone}
use Rattle.flow_chart.specs.declared.spot.Tone.TheVariants.{Printed, Faulty}

-- the event of a line, if it is an event's; that of a link stands with its first process
abbrev pub moment : (number time process : ℕ) → Option Moment
moment n t p = Some (record { number = n; time = t; process = p })

abbrev pub moment_of : Line → Option Moment
moment_of (Boot n t p) = moment n t p.0
moment_of (Kill n t p) = moment n t p.0
moment_of (Stop n t p) = moment n t p.0
moment_of (Cut n t p q) = moment n t p.0
moment_of (Heal n t p q) = moment n t p.0
moment_of (DiskFail n t p k) = moment n t p.0
moment_of (Timer n t p c) = moment n t p.0
moment_of (Arrival n t q m) = moment n t q.0
moment_of (Read n t p c x) = moment n t p.0
moment_of (Write n t p c ok) = moment n t p.0
moment_of (Sync n t p c ok) = moment n t p.0
moment_of (Size n t p c x) = moment n t p.0
moment_of _ = None

-- a line's bytes without its line feed
abbrev pub line_text : Line → List ℕ
line_text l = joined (map spelled (fields l))

-- a mark: what is printed, and what goes wrong
pub record Sign : Type 0 where
  pub tone : Tone
  pub text : List ℕ

abbrev pub printed : List ℕ → Option Sign
printed text = Some (record { tone = Printed; text = text })

abbrev pub faulty : List ℕ → Option Sign
faulty text = Some (record { tone = Faulty; text = text })

-- The mark of a line: of what is printed its value; of an order of the script what it is, and of what; of a failure, a cancellation,
-- a discarded packet and a write of which something was kept the whole line.
abbrev pub sign_of : Line → Option Sign
sign_of (Kill n t p) = faulty (codes "kill")
sign_of (Stop n t p) = faulty (codes "stop")
sign_of (Cut n t p q) = faulty (codes "cut " ++ decimal q.0)
sign_of (Heal n t p q) = faulty (codes "heal " ++ decimal q.0)
sign_of (DiskFail n t p k) = faulty (codes "diskfail " ++ decimal k)
sign_of (PrintInt a value) = printed (signed_decimal value)
sign_of (PrintBool a value) = printed (spelled (truth value))
sign_of (PrintText a bytes) = printed (quoted bytes)
sign_of (Fail a e) = faulty (line_text (Fail a e))
sign_of (Cancel a) = faulty (line_text (Cancel a))
sign_of (Discard m) = faulty (line_text (Discard m))
sign_of (Kept file offset len kept) = faulty (line_text (Kept file offset len kept))
sign_of _ = None

-- the text of a last line
abbrev pub end_of : Line → Option (List ℕ)
end_of EndIdle = Some (line_text EndIdle)
end_of EndBound = Some (line_text EndBound)
end_of EndSpent = Some (line_text EndSpent)
end_of (EndStop monitor) = Some (line_text (EndStop monitor))
end_of _ = None
