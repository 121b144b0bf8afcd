-- A run in memory is a run of the definitions.
use Rattle.std.specs.Prelude.{◌≡◌, Bool, List, ◌++◌, Result}
use Rattle.std.specs.declared.option.Option.TheVariants.{None, Some}
use Rattle.std.specs.declared.alloc.Global.{Global}
use Rattle.flow_base.specs.declared.fault.OutFault.{OutFault}
use Rattle.flow_trace.specs.declared.line.Line.{Line}
use Rattle.flow_class.specs.Classes.{RawTree}
use Rattle.flow_class.specs.View.{raw_of}
use Rattle.flow_class.specs.declared.class.RawClasses.{RawClasses}
use Rattle.flow_code.specs.declared.program.Code.{Code}
use Rattle.flow_worldfile.specs.declared.world.World0.{World0}
use Rattle.flow_worldfile.specs.Worlds.{seen}
use Rattle.flow_meaning.specs.Burst.{Live, Burst}
use Rattle.flow_meaning.specs.Class.{classes}
use Rattle.flow_meaning.specs.Deliver.{idle}
use Rattle.flow_meaning.specs.Frame.{Frame}
use Rattle.flow_meaning.specs.Outside.{Outside, host}
use Rattle.flow_meaning.specs.Process.{Proc, Spent}
use Rattle.flow_meaning.specs.Runs.{before, after, lines_of}
use Rattle.flow_meaning.specs.Views.{frame_spot}
use Rattle.flow_meaning.specs.World.{World, Begun, next_of, begun_by, at_start}
use Rattle.flow_steps.specs.declared.process.Process.{Process}
use Rattle.flow_steps.specs.Doing.{never_ran}
use Rattle.flow_machine.specs.declared.host.Burst as burst_end
use Rattle.flow_machine.specs.declared.host.Burst.TheVariants as burst
use Rattle.flow_world.specs.Around.{Puts}
use Rattle.flow_world.specs.Ending.{Seen}
use Rattle.flow_world.specs.Happening.{Happens}
use Rattle.flow_world.specs.Starting.{Starts}
use Rattle.flow_world_refinement.specs.Order.Showing.{WorldRepresents}
use Rattle.flow_world.specs.declared.ending.Ending.{Ending}
use Rattle.flow_world.specs.Ends.{end_line, LastIs}
use Rattle.flow_world.specs.Tracing.{Traces, Begins, lines_if}
use Rattle.flow_compile_laws.specs.Frames.Framed.{ClassShown, seen_if}

-- What is meant by a process in memory that rests and shows one of the definitions, by what a world of the
-- definitions keeps from event to event, and by code that runs these classes.
module _ (Rests : Process → Proc Frame → Type 0) (Keeps : World Frame → Type 0) (IsCode : Code → Type 0) where
  module _ {A : Type 0} (puts : A → Line → Result (Unit {0}) OutFault → A → Type 0) (r : RawTree) where
    -- The next event of a world of the definitions begins, its process does all that follows, and the lines of it are put.
    pub record EventBegan (m : World Frame) (a b : A) : Type 0 where
      pub begun : Begun Frame
      pub left : Live Outside Frame
      pub begins : begun_by (classes r) m (next_of m.out) ≡ Some begun
      pub follows : Burst (classes r) host (before begun) left
      pub lines : Puts puts a (lines_of begun left) b

    -- it rests then, and the world in memory shows the world of the definitions after the event
    pub record EventShown (m : World Frame) (a : A) (v : Seen) (b : A) : Type 0 where
      pub event : EventBegan m a b
      pub rests : event.left.proc.core.halted ≡ None
      pub shows : WorldRepresents Rests v (after m event.begun event.left)

    -- or it needs more turns than there are
    pub record SpentShown (m : World Frame) (a b : A) : Type 0 where
      pub event : EventBegan m a b
      pub spent : event.left.proc.core.halted ≡ Some Spent

    -- Each event in memory is the next event of the definitions.
    abbrev pub EventsFollow : Type 0
    EventsFollow =
        (w v : Seen) (m : World Frame) (a b : A) → IsCode w.code → WorldRepresents Rests w m → Keeps m
        → Happens puts w a burst.Rested v b → EventShown m a v b

    abbrev pub SpentFollows : Type 0
    SpentFollows =
        (w v : Seen) (m : World Frame) (a b : A) → IsCode w.code → WorldRepresents Rests w m → Keeps m
        → Happens puts w a burst.Spent v b → SpentShown m a b

  -- What a world keeps it keeps after an event.
  abbrev pub KeepsOn : RawTree → Type 0
  KeepsOn r =
      (m : World Frame) (b : Begun Frame) (l : Live Outside Frame) → Keeps m → begun_by (classes r) m (next_of m.out) ≡ Some b
      → Burst (classes r) host (before b) l → l.proc.core.halted ≡ None → Keeps (after m b l)

  -- A process that never ran rests, the code of these classes runs them, and the world at its start keeps what worlds keep, which each
  -- event keeps.
  pub record BoundaryBegins (c : RawClasses) (file : World0) : Type 0 where
    pub fresh : (memory : Global) → Rests (never_ran memory) idle
    pub code : (w : Seen) → Starts c file w → IsCode w.code
    pub keeps : Keeps (at_start (seen file))
    pub keeps_on : KeepsOn (raw_of c)

  -- Where frames are asked for, those of a world in memory that runs classes of this text are those that are
  -- seen of the world that it shows.
  abbrev pub FramesShown : (with_frames : Bool) → RawTree → Type 0
  FramesShown with_frames r =
      (w : Seen) (m : World Frame) → raw_of w.code.program ≡ r → WorldRepresents Rests w m → Keeps m
      → lines_if with_frames w ≡ seen_if (classes r) frame_spot with_frames m

  -- Where that is so, the lines that are put of classes in a world are what is shown of these classes in it,
  -- and end as the run does.
  abbrev pub TraceFollows : {A : Type 0} (puts : A → Line → Result (Unit {0}) OutFault → A → Type 0) → Type 0
  TraceFollows {A} puts =
      (with_frames : Bool) (c : RawClasses) (file : World0) (a b : A) (e : Ending)
      → BoundaryBegins c file → FramesShown with_frames (raw_of c) → EventsFollow puts (raw_of c)
      → SpentFollows puts (raw_of c) → Traces puts with_frames c file a e b
      → (lines : List Line) × ClassShown with_frames (raw_of c) (seen file) lines
      × Puts puts a lines b × LastIs (end_line e) lines

  -- And what was put of a trace that has begun is a first part of all that is shown of them.
  abbrev pub BeginningFollows : {A : Type 0} (puts : A → Line → Result (Unit {0}) OutFault → A → Type 0) → Type 0
  BeginningFollows {A} puts =
      (with_frames : Bool) (c : RawClasses) (file : World0) (a b : A) (lines : List Line)
      → BoundaryBegins c file → FramesShown with_frames (raw_of c)
      → EventsFollow puts (raw_of c) → Begins puts with_frames c file a b
      → ClassShown with_frames (raw_of c) (seen file) lines
      → (part rest : List Line) × (lines ≡ part ++ rest) × Puts puts a part b

-- an event leaves the code as it is
abbrev pub CodeStays : {A : Type 0} (puts : A → Line → Result (Unit {0}) OutFault → A → Type 0) → Type 0
CodeStays {A} puts = (w v : Seen) (a b : A) (e : burst_end.Burst) → Happens puts w a e v b → v.code ≡ w.code
