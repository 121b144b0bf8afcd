-- A first part of a trace, from the event and from the line that failed.
use Rattle.std.proofs.Common.{refl}
use Rattle.std.specs.Prelude.{Bool, Result, Ok}
use Rattle.flow_base.specs.declared.fault.OutFault.{OutFault}
use Rattle.flow_trace.specs.declared.line.Line.{Line}
use Rattle.flow_trace.specs.declared.line.Line.TheVariants as line
use Rattle.flow_worldfile.specs.declared.world.World0.{World0}
use Rattle.flow_class.specs.declared.class.RawClasses.{RawClasses}
use Rattle.flow_machine.specs.declared.host.Burst.{Burst}
use Rattle.flow_machine.specs.declared.host.Burst.TheVariants.{Rested, Spent as SpentBurst}
use Rattle.flow_world.specs.Ending.{Seen}
use Rattle.flow_world.specs.Happening.{Happens, Breaks}
use Rattle.flow_world.specs.Starting.{Starts}
use Rattle.flow_world.specs.FaultedLines.{Telling, tells, whole, failed}
use Rattle.flow_world.proofs.Telling.{no_more}
use Rattle.flow_world.specs.declared.ending.Ending.TheVariants.{Spent}
use Rattle.flow_world.specs.Tracing.{RunsEvents, one_more, GoesPart, some, to_end, TracesPart, begun, all}

module _ {A : Type 0} (puts : A → Line → Result (Unit {0}) OutFault → A → Type 0) (with_frames : Bool) where
  -- an event failed
  pub part_of_event : (w u v : Seen) (a b : Telling A) (c : A) → RunsEvents (tells puts) with_frames w a u b → Breaks (tells puts) u b v (failed c)
      → GoesPart (tells puts) with_frames w a (failed c)
  part_of_event w u v a b c goes t = by_burst t.burst t.left t.happens
    where
      by_burst : (e : Burst) (left : Seen) → Happens (tells puts) u b e left (failed c) → GoesPart (tells puts) with_frames w a (failed c)
      by_burst Rested left happens = some (one_more goes happens (no_more puts c _))
      by_burst SpentBurst left happens = to_end {e = Spent} {v = left} (record { last = u; before = b; goes = goes; ends = happens })

  -- and so the trace
  pub part_of_run : (classes : RawClasses) (file : World0) (a : A) (h : Telling A) (b : A) (first : Seen) → Starts classes file first
      → tells puts (whole a) line.Head (Ok tt) h → GoesPart (tells puts) with_frames first h (failed b)
      → TracesPart (tells puts) with_frames classes file (whole a) (failed b)
  part_of_run classes file a h b first starts head (some {v = v} goes) =
      begun (record { first = first; last = v; headed = h; starts = starts; head = head; goes = goes })
  part_of_run classes file a h b first starts head (to_end {e = e} {v = v} goes) =
      all {e = e} (record { first = first; left = v; headed = h; before = failed b; starts = starts; head = head; goes = goes; ended = (refl, refl) })
