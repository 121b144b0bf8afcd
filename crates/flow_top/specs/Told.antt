-- What is told of an outcome, and with which status.
use Rattle.std.specs.Prelude.{◌≡◌, ℕ, List}
use Rattle.std.specs.Io.KnownBytes.{Appends}
use Rattle.flow_base.specs.Bytes.{AppendsPart, Grows}
use Rattle.flow_base.specs.Faults.{Rose}
use Rattle.flow_base.specs.Seen.{SinkSeen}
use Rattle.flow_base.specs.declared.fault.OutFault.{OutFault}
use Rattle.flow_base.specs.declared.fault.OutFault.TheVariants as fault
use Rattle.flow_trace.specs.declared.line.Line.{Line}
use Rattle.flow_monitor.specs.Ears.{Ears}
use Rattle.flow_monitor.specs.Cut.{Cut}
use Rattle.flow_world.specs.declared.ending.Ending.{Ending}
use Rattle.flow_world.specs.declared.ending.Ending.TheVariants.{Idle, Bound, Spent}
use Rattle.flow_world.specs.declared.run_ending.RunEnding.{RunEnding}
use Rattle.flow_world.specs.declared.run_ending.RunEnding.TheVariants.{Own, Stopped}
use Rattle.flow_world.specs.Ends.{end_line, LastIs}
use Rattle.flow_world.specs.WatchedTraces.{last_line}
use Rattle.flow_world.specs.Written.{bytes_of}
use Rattle.flow_top.specs.declared.outcome.Outcome.{Outcome}
use Rattle.flow_top.specs.declared.outcome.Outcome.TheVariants.{Answered, Run, Bench, Shrink, Debug}
use Rattle.flow_top.specs.declared.outcome.ProgramRun.{ProgramRun}
use Rattle.flow_top.specs.declared.outcome.BenchRun.{BenchRun}
use Rattle.flow_top.specs.declared.outcome.DebugRun.{DebugRun}
use Rattle.flow_top.specs.declared.outcome.Answered as told
use Rattle.flow_top.specs.Outcomes.{text_of, status_of, IsShown}
use Rattle.flow_top.specs.declared.counting.Counts.{Counts}
use Rattle.flow_worldfile.specs.Worlds.{seen}
use Rattle.flow_shrink.specs.declared.shrinking.Shrunk.{Shrunk}
use Rattle.flow_shrink.specs.Shrinking.{Shrinks}
use Rattle.flow_top.specs.Debugged.{IsViewOf}
use Rattle.flow_top.specs.Shrunk.{IsStopped, shrunk_text, shrunk_status}
use Rattle.flow_top.specs.Summary.{counts_of, summary_text}

-- the status of a run by its last line: 4 where an event needed more turns than it may take, 8 where a monitor said Stop
abbrev pub ending_status : Ending → ℕ
ending_status Idle = 0
ending_status Bound = 0
ending_status Spent = 4

abbrev pub run_status : RunEnding → ℕ
run_status (Own ending) = ending_status ending
run_status (Stopped k) = 8

-- the status where the text didn't go out whole
abbrev pub fault_status_of : OutFault → ℕ
fault_status_of fault.Failed = 6
fault_status_of fault.OutOfMemory = 7

-- A first part of this text was written, and what was handed on of all that was written is a first part of it.
pub record GoesOutInPart (before after : SinkSeen) (text : List ℕ) : Type 0 where
  pub part : AppendsPart before.written after.written text
  pub out : Grows after.handed after.written

-- A text went out whole: it was written and handed on.
pub record GoesOut (before after : SinkSeen) (text : List ℕ) : Type 0 where
  pub whole : Appends before.written after.written text
  pub all : after.handed ≡ after.written

-- What was told of an outcome that is no run: its whole text, with its status; or a first part of it, of which a first part is out, with
-- status 6 where the sink failed, which its count then shows, or 7 where there was no memory.
pub data ReportedTold (outcome : told.Answered) (before after : SinkSeen) : ℕ → Type 0 where
  whole : GoesOut before after (text_of outcome) → ReportedTold outcome before after (status_of outcome)
  write_fault : GoesOutInPart before after (text_of outcome) → Rose before.faults after.faults → ReportedTold outcome before after 6
  no_memory_told : GoesOutInPart before after (text_of outcome) → ReportedTold outcome before after 7

-- What was told of a run that this panel heard: the bytes of what is shown of it, cut where a monitor says Stop, with the status of its
-- end. Or a first part of them, of which a first part is out, with status 6, where the sink failed, which its count then shows, or 7,
-- where there was no memory.
pub data ReportedRun (r : ProgramRun) (ears : Ears) (before after : SinkSeen) : ℕ → Type 0 where
  ended : (ending : RunEnding) (lines : List Line) → IsShown r lines → LastIs (last_line ears ending) (Cut ears lines)
      → GoesOut before after (bytes_of (Cut ears lines)) → ReportedRun r ears before after (run_status ending)
  run_write_fault : (lines : List Line) → IsShown r lines → GoesOutInPart before after (bytes_of (Cut ears lines))
      → Rose before.faults after.faults → ReportedRun r ears before after 6
  run_no_memory : (lines : List Line) → IsShown r lines → GoesOutInPart before after (bytes_of (Cut ears lines))
      → ReportedRun r ears before after 7

-- The lines that are shown of a run were counted, up to its end.
pub record IsCounted (r : ProgramRun) (ending : Ending) (counts : Counts) : Type 0 where
  pub lines : List Line
  pub shown : IsShown r lines
  pub last : LastIs (end_line ending) lines
  pub are : counts ≡ counts_of lines

-- What was told of a run whose summary is asked for: that of what is shown of it, with the status of its end; or a first part.
pub data ReportedBench (b : BenchRun) (before after : SinkSeen) : ℕ → Type 0 where
  summed : (ending : Ending) (lines : List Line) → IsShown b.run lines → LastIs (end_line ending) lines
      → GoesOut before after (summary_text b.clients b.seed lines (end_line ending)) → ReportedBench b before after (ending_status ending)
  sum_write_fault : (ending : Ending) (lines : List Line) → IsShown b.run lines → LastIs (end_line ending) lines
      → GoesOutInPart before after (summary_text b.clients b.seed lines (end_line ending)) → Rose before.faults after.faults
      → ReportedBench b before after 6
  sum_no_memory_told : (ending : Ending) (lines : List Line) → IsShown b.run lines → LastIs (end_line ending) lines
      → GoesOutInPart before after (summary_text b.clients b.seed lines (end_line ending)) → ReportedBench b before after 7
  -- there was no memory before any of it was written
  sum_no_memory : after ≡ before → ReportedBench b before after 7

-- What was told of a world that is to be made smaller: the text of what that came to, with its status; or a first part of it.
pub data ReportedShrink (r : ProgramRun) (ears : Ears) (before after : SinkSeen) : ℕ → Type 0 where
  shrunk : (x : Shrunk) → Shrinks (IsStopped r ears) (seen r.world) x → GoesOut before after (shrunk_text x)
      → ReportedShrink r ears before after (shrunk_status x)
  shrink_write_fault : (x : Shrunk) → Shrinks (IsStopped r ears) (seen r.world) x → GoesOutInPart before after (shrunk_text x)
      → Rose before.faults after.faults → ReportedShrink r ears before after 6
  shrink_no_memory_told : (x : Shrunk) → Shrinks (IsStopped r ears) (seen r.world) x → GoesOutInPart before after (shrunk_text x)
      → ReportedShrink r ears before after 7
  -- there was no memory before any of it was written
  shrink_no_memory : after ≡ before → ReportedShrink r ears before after 7

-- What was told of a program's state after so many events: the text of that, with its status; or a first part of it.
pub data ReportedDebug (d : DebugRun) (before after : SinkSeen) : ℕ → Type 0 where
  shown_state : (text : List ℕ) (status : ℕ) → IsViewOf d.run d.most text status → GoesOut before after text
      → ReportedDebug d before after status
  state_write_fault : (text : List ℕ) (status : ℕ) → IsViewOf d.run d.most text status → GoesOutInPart before after text
      → Rose before.faults after.faults → ReportedDebug d before after 6
  state_no_memory_told : (text : List ℕ) (status : ℕ) → IsViewOf d.run d.most text status → GoesOutInPart before after text
      → ReportedDebug d before after 7
  -- there was no memory before any of it was written
  state_no_memory : after ≡ before → ReportedDebug d before after 7

abbrev pub Reported : Ears → Outcome → SinkSeen → SinkSeen → ℕ → Type 0
Reported ears (Answered outcome) before after status = ReportedTold outcome before after status
Reported ears (Run r) before after status = ReportedRun r ears before after status
Reported ears (Bench b) before after status = ReportedBench b before after status
Reported ears (Shrink r) before after status = ReportedShrink r ears before after status
Reported ears (Debug d) before after status = ReportedDebug d before after status
