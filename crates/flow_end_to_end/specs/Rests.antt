-- What is put of a world in memory from where it is: wherever it comes from, if it represents a world of the definitions.
use Rattle.std.specs.Prelude.{◌≡◌, List, Bool, Result}
use Rattle.std.specs.declared.option.Option.{Option}
use Rattle.flow_base.specs.declared.fault.OutFault.{OutFault}
use Rattle.flow_trace.specs.declared.line.Line.{Line}
use Rattle.flow_monitor.specs.Cut.{Cut}
use Rattle.flow_monitor.specs.Ears.{Ears}
use Rattle.flow_class.specs.Classes.{RawTree}
use Rattle.flow_class.specs.View.{raw_of}
use Rattle.flow_meaning.specs.Class.{classes}
use Rattle.flow_meaning.specs.Frame.{Frame}
use Rattle.flow_meaning.specs.Runs.{Runs}
use Rattle.flow_meaning.specs.Views.{frame_spot}
use Rattle.flow_meaning.specs.World.{World}
use Rattle.flow_world.specs.declared.run_ending.RunEnding.{RunEnding}
use Rattle.flow_machine.specs.declared.host.RunFault.{RunFault}
use Rattle.flow_machine.specs.declared.host.RunFault.TheVariants.{Stuck}
use Rattle.flow_world.specs.Around.{Puts, PutsPart}
use Rattle.flow_world.specs.BreakingTraces.{RestFails}
use Rattle.flow_world.specs.Ending.{Seen}
use Rattle.flow_world.specs.Ends.{LastIs}
use Rattle.flow_world.specs.FaultedLines.{tells, telling, whole, failed}
use Rattle.flow_world.specs.Watching.{Hearing, watching}
use Rattle.flow_world.specs.WatchedTraces.{HeardRest, HeardRestPart, last_line}
use Rattle.flow_burst_refinement.specs.Enabled.Tasking.{IsProgram}
use Rattle.flow_world_refinement.specs.Effects.Quiescence.{Quiescent}
use Rattle.flow_world_refinement.specs.Order.Showing.{WorldRepresents}
use Rattle.flow_world_refinement.specs.Views.Waiting.{WorldWaits}
use Rattle.flow_compile_laws.specs.Frames.Framed.{Shows}
use Rattle.flow_end_to_end.specs.Events.{MemoryWorldInvariant}

-- A world in memory, between events, that runs the code of these classes and represents a world of the definitions: this keeps what worlds
-- keep from event to event, and a run goes on from it.
pub record GoesOn (r : RawTree) (v : Seen) (m : World Frame) : Type 0 where
  pub code : IsProgram r v.code
  pub text : raw_of v.code.program ≡ r
  pub shows : WorldRepresents (Quiescent r) v m
  pub keeps : MemoryWorldInvariant r m
  pub waits : WorldWaits m
  pub states : List (World Frame)
  pub lines : List Line
  pub runs : Runs (classes r) m states lines

module _ {A : Type 0} (puts : A → Line → Result (Unit {0}) OutFault → A → Type 0) where
  -- What is put of it is what is shown from that world of the definitions on, cut by the panel, and ends as the run does.
  abbrev pub RestsCut : Type 0
  RestsCut =
      (r : RawTree) (v : Seen) (m : World Frame) (with_frames : Bool) (a : A) (ears : Ears) (e : RunEnding) (b : Hearing A) → GoesOn r v m
      → HeardRest puts with_frames v (watching a ears) e (whole b)
      → (lines : List Line) × Shows (classes r) frame_spot with_frames m lines × Puts (tells puts) (whole a) (Cut ears lines) (whole b.out)
      × LastIs (last_line ears e) (Cut ears lines)

  -- Where a line failed, that was told up to this line.
  abbrev pub RestsCutInPart : Type 0
  RestsCutInPart =
      (r : RawTree) (v : Seen) (m : World Frame) (with_frames : Bool) (a : A) (ears : Ears) (b : Hearing A) → GoesOn r v m
      → HeardRestPart puts with_frames v (watching a ears) b
      → (lines : List Line) × Shows (classes r) frame_spot with_frames m lines × Puts (tells puts) (whole a) (Cut ears lines) (failed b.out)

  -- Where it fails, whatever failed, it isn't stuck, and a first part of that was told.
  abbrev pub RestsFailInPart : Type 0
  RestsFailInPart =
      (r : RawTree) (v : Seen) (m : World Frame) (with_frames : Bool) (a : A) (ears : Ears) (f : RunFault) (b : Hearing A)
      (fault : Option OutFault) → GoesOn r v m → RestFails puts with_frames v (watching a ears) f (telling b fault)
      → (f ≡ Stuck → ⊥) × ((lines : List Line) × Shows (classes r) frame_spot with_frames m lines
      × PutsPart (tells puts) (whole a) (Cut ears lines) (telling b.out fault))
