-- When a run fails, with which fault, and which lines were told till then. It gets stuck where an event does, or where a frame that is to
-- be told is of no class.
use Rattle.std.specs.Prelude.{◌≡◌, ◌⊎◌, Bool, true, false, List, [], ◌∷◌, slice_get, Result, Ok}
use Rattle.std.specs.declared.option.Option.TheVariants.{None, Some}
use Rattle.flow_base.specs.declared.fault.OutFault.{OutFault}
use Rattle.flow_machine.specs.Cause.{fault_of}
use Rattle.flow_machine.specs.declared.host.RunFault.{RunFault}
use Rattle.flow_machine.specs.declared.host.RunFault.TheVariants.{OutOfMemory, Stuck}
use Rattle.flow_machine.specs.declared.host.Burst.TheVariants.{Rested}
use Rattle.flow_world.specs.declared.run_ending.RunEnding.{RunEnding}
use Rattle.flow_base.specs.declared.ids.ProcId.{ProcId}
use Rattle.flow_class.specs.declared.class.RawClasses.{RawClasses}
use Rattle.flow_class.specs.declared.class.Class.{Class}
use Rattle.flow_trace.specs.declared.line.Line.{Line}
use Rattle.flow_trace.specs.declared.line.Line.TheVariants as line
use Rattle.flow_worldfile.specs.declared.world.World0.{World0}
use Rattle.flow_steps.specs.declared.views.FrameView.{FrameView}
use Rattle.flow_world.specs.Ending.{Seen}
use Rattle.flow_world.specs.Happening.{Happens}
use Rattle.flow_world.specs.Starting.{Starts}
use Rattle.flow_world.specs.Around.{PutsPart}
use Rattle.flow_world.specs.FaultedLines.{Telling, tells, whole}
use Rattle.flow_world.specs.BreakingEvents.{EventFails}
use Rattle.flow_world.specs.Views.{frames_at}
use Rattle.flow_world.specs.Tracing.{lines_if}
use Rattle.flow_world.specs.Watching.{Hearing, hears}
use Rattle.flow_world.specs.WatchedTraces.{Quietly, HeardToEnd, HeardRest, HeardTrace}

-- one of these frames is of no class
abbrev pub SomeNoClass : List Class → List FrameView → Type 0
SomeNoClass cs [] = ⊥
SomeNoClass cs (f ∷ fs) = (slice_get cs f.class ≡ None) ⊎ SomeNoClass cs fs

-- so is one of a process, or, where they are asked for, of the world
abbrev pub ProcessFramesStuck : Seen → ProcId → Type 0
ProcessFramesStuck w p = SomeNoClass w.code.program.classes.items (frames_at (slice_get w.places p.0))

abbrev pub FramesStuck : Seen → Type 0
FramesStuck w = (p : ProcId) × ProcessFramesStuck w p

abbrev pub FramesStuckIf : (with_frames : Bool) → Seen → Type 0
FramesStuckIf true w = FramesStuck w
FramesStuckIf false w = ⊥

-- the frames of a world fail: a first part of their lines was told
pub record FramesFail {A : Type 0} (puts : A → Line → Result (Unit {0}) OutFault → A → Type 0) (with_frames : Bool) (w : Seen)
    (a : Telling A) (f : RunFault) (t : Telling A) : Type 0 where
  pub part : PutsPart (tells puts) a (lines_if with_frames w) t
  pub stuck : f ≡ Stuck → FramesStuckIf with_frames w

-- where a panel hears the lines
module _ {A : Type 0} (puts : A → Line → Result (Unit {0}) OutFault → A → Type 0) (with_frames : Bool) where
  -- After some events in which nobody says Stop the next one fails, or the frames after one that ran; or 2^64 - 1 of them ran, and no more
  -- can be counted, which is answered as want of memory.
  pub data EventsFail (w : Seen) (a : Hearing A) (f : RunFault) (t : Telling (Hearing A)) : Type 0 where
    event_fails : {v : Seen} {b : Hearing A} → Quietly puts with_frames w a v b → EventFails (hears puts) v (whole b) f t
        → EventsFail w a f t
    frames_fail : {u v : Seen} {b c : Hearing A} → Quietly puts with_frames w a u b
        → Happens (tells (hears puts)) u (whole b) Rested v (whole c) → FramesFail (hears puts) with_frames v (whole c) f t
        → EventsFail w a f t
    counted_out : {v : Seen} {b : Hearing A} → Quietly puts with_frames w a v b → f ≡ OutOfMemory → t ≡ whole b → EventsFail w a f t

  -- What is put of a world from where it is fails: in its events; before the last line, where there is no memory for the name of who
  -- stopped it; or at that line.
  pub data RestFails (w : Seen) (a : Hearing A) (f : RunFault) (t : Telling (Hearing A)) : Type 0 where
    in_events : EventsFail w a f t → RestFails w a f t
    unnamed : (e : RunEnding) (before : Hearing A) → f ≡ OutOfMemory → t ≡ whole before → HeardToEnd puts with_frames e w a before
        → RestFails w a f t
    at_last : (fault : OutFault) (e : RunEnding) → f ≡ fault_of fault → t.fault ≡ Some fault → HeardRest puts with_frames w a e t
        → RestFails w a f t

  -- A run fails: before its first line for want of memory; at that line; after it; before its last line, where there is no memory for the
  -- name of who stopped it; or at that line.
  pub data TraceFails (classes : RawClasses) (file : World0) (a : Hearing A) (f : RunFault) (t : Telling (Hearing A)) : Type 0 where
    no_memory : f ≡ OutOfMemory → t ≡ whole a → TraceFails classes file a f t
    head_fails : (fault : OutFault) → f ≡ fault_of fault → t.fault ≡ Some fault → tells (hears puts) (whole a) line.Head (Ok tt) t
        → TraceFails classes file a f t
    events_fail : (first : Seen) (headed : Hearing A) → Starts classes file first → hears puts a line.Head (Ok tt) headed
        → EventsFail first headed f t → TraceFails classes file a f t
    no_name : (e : RunEnding) (first : Seen) (headed before : Hearing A) → f ≡ OutOfMemory → t ≡ whole before
        → Starts classes file first → hears puts a line.Head (Ok tt) headed → HeardToEnd puts with_frames e first headed before
        → TraceFails classes file a f t
    end_fails : (fault : OutFault) (e : RunEnding) → f ≡ fault_of fault → t.fault ≡ Some fault
        → HeardTrace puts with_frames classes file a e t → TraceFails classes file a f t
