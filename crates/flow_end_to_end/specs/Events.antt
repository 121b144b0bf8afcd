-- No event of a world in memory whose processes run a valid program is stuck, by what a world keeps from event to event; and one that fails
-- has put a first part of its lines.
use Rattle.std.specs.Prelude.{◌≡◌, length, Result}
use Rattle.std.specs.declared.option.Option.TheVariants.{None, Some}
use Rattle.flow_base.specs.declared.fault.OutFault.{OutFault}
use Rattle.flow_trace.specs.declared.line.Line.{Line}
use Rattle.flow_worldfile.specs.Worlds as file
use Rattle.flow_class.specs.Classes.{RawTree}
use Rattle.flow_meaning.specs.Burst.{Live, Burst}
use Rattle.flow_meaning.specs.Class.{classes}
use Rattle.flow_meaning.specs.Frame.{Frame}
use Rattle.flow_meaning.specs.Outside.{Outside, host}
use Rattle.flow_meaning.specs.Runs.{before, after, lines_of}
use Rattle.flow_meaning.specs.World.{World, Begun, next_of, begun_by, at_start}
use Rattle.flow_world.specs.Ending.{Seen}
use Rattle.flow_world.specs.Around.{PutsPart}
use Rattle.flow_world.specs.BreakingEvents.{EventFails}
use Rattle.flow_world.specs.FaultedLines.{Telling, tells}
use Rattle.flow_machine.specs.declared.host.RunFault.{RunFault}
use Rattle.flow_machine.specs.declared.host.RunFault.TheVariants.{Stuck}
use Rattle.flow_world_refinement.specs.Order.Showing.{WorldRepresents}
use Rattle.flow_burst_refinement.specs.Enabled.Tasking.{IsProgram}
use Rattle.flow_world_refinement.specs.Effects.Quiescence.{Quiescent}
use Rattle.flow_world_refinement.specs.Invariants.{WorldInvariant}
use Rattle.flow_invariants.specs.OpenPorts.{WorldOpen}

-- each process of a world has a disk
abbrev pub HasDisks : Outside → Type 0
HasDisks o = length o.disks ≡ o.file.processes

-- What a world keeps from event to event so that processes in memory can follow it; besides, no stream of a port has an end, and
-- each process has a disk.
pub record MemoryWorldInvariant (r : RawTree) (m : World Frame) : Type 0 where
  pub lasting : WorldInvariant r m
  pub heard : WorldOpen m
  pub disks : HasDisks m.out

-- So it is in the world of a file in range before its first event, and after each event.
abbrev pub MemoryWorldInvariantStarts : RawTree → Type 0
MemoryWorldInvariantStarts r = (w : file.World) → file.IsInRange w → MemoryWorldInvariant r (at_start w)

abbrev pub MemoryWorldInvariantStays : RawTree → Type 0
MemoryWorldInvariantStays r =
    (w : World Frame) (b : Begun Frame) (l : Live Outside Frame) → MemoryWorldInvariant r w
    → begun_by (classes r) w (next_of w.out) ≡ Some b
    → Burst (classes r) host (before b) l → l.proc.core.halted ≡ None → MemoryWorldInvariant r (after w b l)

-- Of the next event of a world, where it fails in memory, a first part of the lines was put; and it isn't stuck.
abbrev pub NextInPart : {A : Type 0} (puts : A → Line → Result (Unit {0}) OutFault → A → Type 0) → RawTree → World Frame
    → A → RunFault → A → Type 0
NextInPart {A} puts r m a f b =
    (f ≡ Stuck → ⊥)
    × ((g : Begun Frame) (l : Live Outside Frame) → begun_by (classes r) m (next_of m.out) ≡ Some g
    → Burst (classes r) host (before g) l → PutsPart puts a (lines_of g l) b)

-- So it is of a world in memory that shows such a one.
abbrev pub EventFailsInPart : {A : Type 0} (puts : A → Line → Result (Unit {0}) OutFault → A → Type 0) → RawTree → Type 0
EventFailsInPart {A} puts r =
    (w : Seen) (m : World Frame) (a : Telling A) (f : RunFault) (t : Telling A) → IsProgram r w.code
    → WorldRepresents (Quiescent r) w m → MemoryWorldInvariant r m → EventFails puts w a f t → NextInPart (tells puts) r m a f t
