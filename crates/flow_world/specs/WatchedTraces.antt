-- The trace of classes in a world where a panel hears it.
use Rattle.std.specs.Prelude.{◌≡◌, ℕ, Bool, ◌<◌, Result, Ok}
use Rattle.std.specs.declared.option.Option.TheVariants.{None, Some}
use Rattle.flow_base.specs.declared.fault.OutFault.{OutFault}
use Rattle.flow_trace.specs.declared.line.Line.{Line}
use Rattle.flow_trace.specs.declared.line.Line.TheVariants as line
use Rattle.flow_class.specs.declared.class.RawClasses.{RawClasses}
use Rattle.flow_worldfile.specs.declared.world.World0.{World0}
use Rattle.flow_machine.specs.declared.host.Burst.TheVariants.{Rested}
use Rattle.flow_monitor.specs.Ears.{Ears, name_at}
use Rattle.flow_world.specs.declared.ending.Ending.{Ending}
use Rattle.flow_world.specs.declared.run_ending.RunEnding.{RunEnding}
use Rattle.flow_world.specs.declared.run_ending.RunEnding.TheVariants.{Own, Stopped}
use Rattle.flow_world.specs.Around.{Puts}
use Rattle.flow_world.specs.Ending.{Seen}
use Rattle.flow_world.specs.Ends.{end_line}
use Rattle.flow_world.specs.FaultedLines.{Telling, tells, whole, failed}
use Rattle.flow_world.specs.Happening.{Happens, Breaks, EventDoes}
use Rattle.flow_world.specs.Starting.{Starts}
use Rattle.flow_world.specs.Tracing.{lines_if, RunsEvents, last_answer}
use Rattle.flow_world.specs.Watching.{Hearing, hears}

-- the last line of a run
abbrev pub last_line : Ears → RunEnding → Line
last_line ears (Own e) = end_line e
last_line ears (Stopped k) = line.EndStop (name_at ears k)

-- the number of who stopped it is one of the panel
abbrev pub IsEnding : RunEnding → (many : ℕ) → Type 0
IsEnding (Own e) many = Unit {0}
IsEnding (Stopped k) many = k < many

module _ {A : Type 0} (puts : A → Line → Result (Unit {0}) OutFault → A → Type 0) (with_frames : Bool) where
  -- events run one after another, and nobody says Stop
  pub record Quietly (w : Seen) (a : Hearing A) (v : Seen) (b : Hearing A) : Type 0 where
    pub goes : RunsEvents (tells (hears puts)) with_frames w (whole a) v (whole b)
    pub quiet : b.stop ≡ None

  -- the run comes to its own end, and nobody says Stop before its last event
  pub record EndsItself (e : Ending) (w : Seen) (a b : Hearing A) : Type 0 where
    pub last : Seen
    pub before : Hearing A
    pub left : Seen
    pub quietly : Quietly w a last before
    pub ends : EventDoes (tells (hears puts)) (last_answer e) last (whole before) left (whole b)

  -- or a monitor says Stop in an event that isn't spent: the run ends with the frames after it
  pub record StopsAfter (k : ℕ) (w : Seen) (a b : Hearing A) : Type 0 where
    pub last : Seen
    pub before : Hearing A
    pub left : Seen
    pub told : Hearing A
    pub quietly : Quietly w a last before
    pub happens : Happens (tells (hears puts)) last (whole before) Rested left (whole told)
    pub stop : told.stop ≡ Some k
    pub frames : Puts (tells (hears puts)) (whole told) (lines_if with_frames left) (whole b)

  abbrev pub HeardToEnd : RunEnding → Seen → Hearing A → Hearing A → Type 0
  HeardToEnd (Own e) w a b = EndsItself e w a b
  HeardToEnd (Stopped k) w a b = StopsAfter k w a b

  -- a put fails in an event, or in the frames after one
  pub data HeardInPart (w : Seen) (a b : Hearing A) : Type 0 where
    in_event : {u v : Seen} {c : Hearing A} → Quietly w a u c → Breaks (tells (hears puts)) u (whole c) v (failed b) → HeardInPart w a b
    in_frames : {u v : Seen} {c d : Hearing A} → Quietly w a u c → Happens (tells (hears puts)) u (whole c) Rested v (whole d)
        → Puts (tells (hears puts)) (whole d) (lines_if with_frames v) (failed b) → HeardInPart w a b

  -- what is put of a world from where it is, up to the last line, which may have failed
  pub record HeardRest (w : Seen) (a : Hearing A) (e : RunEnding) (b : Telling (Hearing A)) : Type 0 where
    pub before : Hearing A
    pub goes : HeardToEnd e w a before
    pub ended : tells (hears puts) (whole before) (last_line a.ears e) (Ok tt) b

  -- a put failed there: one in an event or in the frames after it, or the last
  pub data HeardRestPart (w : Seen) (a b : Hearing A) : Type 0 where
    in_rest : HeardInPart w a b → HeardRestPart w a b
    no_last : {e : RunEnding} → HeardRest w a e (failed b) → HeardRestPart w a b

  -- the trace, from its first line to its last, which may have failed
  pub record HeardTrace (classes : RawClasses) (file : World0) (a : Hearing A) (e : RunEnding) (b : Telling (Hearing A)) : Type 0 where
    pub first : Seen
    pub headed : Hearing A
    pub before : Hearing A
    pub starts : Starts classes file first
    pub head : hears puts a line.Head (Ok tt) headed
    pub goes : HeardToEnd e first headed before
    pub ended : tells (hears puts) (whole before) (last_line a.ears e) (Ok tt) b

  -- a put failed: the first one, one in an event or in the frames after it, or the last
  pub data HeardTracePart (classes : RawClasses) (file : World0) (a b : Hearing A) : Type 0 where
    no_head : tells (hears puts) (whole a) line.Head (Ok tt) (failed b) → HeardTracePart classes file a b
    in_run : {first : Seen} {headed : Hearing A} → Starts classes file first → hears puts a line.Head (Ok tt) headed
        → HeardInPart first headed b → HeardTracePart classes file a b
    no_end : {e : RunEnding} → HeardTrace classes file a e (failed b) → HeardTracePart classes file a b
