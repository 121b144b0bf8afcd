-- Events that run without a line.
use Rattle.std.specs.Prelude.{◌≡◌, ℕ, ◌+◌, ◌<◌, false, Result, Ok}
use Rattle.std.specs.declared.option.Option.{Option}
use Rattle.std.specs.declared.option.Option.TheVariants.{None, Some}
use Rattle.flow_base.specs.declared.fault.OutFault.{OutFault}
use Rattle.flow_trace.specs.declared.line.Line.{Line}
use Rattle.flow_machine.specs.declared.host.RunFault.{RunFault}
use Rattle.flow_world.specs.declared.ending.Ending.{Ending}
use Rattle.flow_world.specs.declared.silence.Silence.{Silence}
use Rattle.flow_world.specs.Ending.{Seen}
use Rattle.flow_world.specs.FaultedLines.{Telling, tells, whole}
use Rattle.flow_world.specs.Happening.{EventDoes}
use Rattle.flow_world.specs.BreakingEvents.{EventFails}
use Rattle.flow_world.specs.Tracing.{RunsEvents, last_answer}

-- a line is put where nobody keeps it
abbrev pub unkept : Silence → Line → Result (Unit {0}) OutFault → Silence → Type 0
unkept a l answer b = answer ≡ Ok tt

-- so many events run, one after another
pub record Skips (many : ℕ) (w v : Seen) (b : Silence) : Type 0 where
  pub first : Silence
  pub runs : RunsEvents (tells unkept) false w (whole first) v (whole b)
  pub counted : v.ran ≡ w.ran + many

-- after fewer than so many of them the run ends
pub record SkipsToEnd (most : ℕ) (w : Seen) (e : Ending) (v : Seen) : Type 0 where
  pub many : ℕ
  pub fewer : many < most
  pub last : Seen
  pub before : Silence
  pub after : Silence
  pub skips : Skips many w last before
  pub ends : EventDoes (tells unkept) (last_answer e) last (whole before) v (whole after)

-- so many of them run, or all up to the end where that comes first
abbrev pub SkipsUpTo : (most : ℕ) → Seen → Option Ending → Seen → Type 0
SkipsUpTo most w None v = (b : Silence) × Skips most w v b
SkipsUpTo most w (Some e) v = SkipsToEnd most w e v

-- after fewer than so many of them the next one fails
pub record SkipFails (most : ℕ) (w : Seen) (f : RunFault) : Type 0 where
  pub many : ℕ
  pub fewer : many < most
  pub last : Seen
  pub before : Silence
  pub left : Telling Silence
  pub skips : Skips many w last before
  pub fails : EventFails unkept last (whole before) f left
