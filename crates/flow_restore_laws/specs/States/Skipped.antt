-- Runs in memory that go on after events that ran without a line, and from any boundary.
use Rattle.std.specs.Prelude.{◌≡◌, ℕ, Bool, false, List, ◌∷◌, ◌++◌, slice_get, Result}
use Rattle.std.specs.declared.option.Option.TheVariants.{None, Some}
use Rattle.flow_base.specs.declared.fault.OutFault.{OutFault}
use Rattle.flow_tree.specs.declared.decl.Program.{Program}
use Rattle.flow_tree.specs.DeclView.{program_of}
use Rattle.flow_trace.specs.declared.line.Line.{Line}
use Rattle.flow_trace.specs.declared.line.Line.TheVariants as line
use Rattle.flow_monitor.specs.Cut.{Cut}
use Rattle.flow_monitor.specs.Ears.{Ears}
use Rattle.flow_worldfile.specs.declared.world.World0.{World0}
use Rattle.flow_worldfile.specs.Worlds as worlds
use Rattle.flow_worldfile.specs.Worlds.{IsInRange, seen}
use Rattle.flow_class.specs.Classes.{RawTree}
use Rattle.flow_class.specs.declared.class.RawClasses.{RawClasses}
use Rattle.flow_class.specs.View.{raw_of}
use Rattle.flow_front.specs.Verdict.{IsSound}
use Rattle.flow_lower.specs.Weighing.{first_heavy}
use Rattle.flow_lower.specs.Compiled.{Has}
use Rattle.flow_meaning.specs.Frame.{Frame}
use Rattle.flow_meaning.specs.Runs.{ClassStates}
use Rattle.flow_meaning.specs.World.{World}
use Rattle.flow_invariants.specs.Unmarked.{AreWhole}
use Rattle.flow_world.specs.declared.run_ending.RunEnding.{RunEnding}
use Rattle.flow_world.specs.declared.silence.Silence.{Silence}
use Rattle.flow_world.specs.Around.{Puts}
use Rattle.flow_world.specs.Ending.{Seen}
use Rattle.flow_world.specs.Ends.{LastIs}
use Rattle.flow_world.specs.FaultedLines.{Telling, tells, whole}
use Rattle.flow_world.specs.Skipping.{unkept}
use Rattle.flow_world.specs.Starting.{Starts}
use Rattle.flow_world.specs.Watching.{Hearing, watching}
use Rattle.flow_world.specs.WatchedTraces.{HeardRest, last_line}
use Rattle.flow_compile_laws.specs.Frames.Framed.{ClassShown, SourceShown}
use Rattle.flow_end_to_end.specs.Rests.{GoesOn}
use Rattle.flow_restore_laws.specs.States.Heaps.{HaveFewerPlaces}
use Rattle.flow_restore_laws.specs.States.Resumed.{Resumes}

-- A world in memory from which events may go on: it represents the state at which the run of these classes is after as many events.
pub record GoesOnInRun (r : RawTree) (w : worlds.World) (v : Seen) : Type 0 where
  pub states : List (World Frame)
  pub run : ClassStates r w states
  pub state : World Frame
  pub after_as_many : slice_get states v.ran ≡ Some state
  pub goes : GoesOn r v state

module _ {A : Type 0} (puts : A → Line → Result (Unit {0}) OutFault → A → Type 0) where
  -- So is each world in memory at each boundary of a run of valid classes in which any processes may be made again.
  abbrev pub ClassesGoOnward : Type 0
  ClassesGoOnward =
      (c : RawClasses) (file : World0) (with_frames : Bool) (first v : Seen) (a b : A) → AreWhole (raw_of c) → HaveFewerPlaces (raw_of c)
      → IsInRange (seen file) → Starts c file first → Resumes puts with_frames first a v b → GoesOnInRun (raw_of c) (seen file) v

  -- and of the classes of a text
  abbrev pub ProgramsGoOnward : Type 0
  ProgramsGoOnward =
      (text : List ℕ) (program : Program) (c : RawClasses) (file : World0) (with_frames : Bool) (first v : Seen) (a b : A)
      → IsSound text program → first_heavy (program_of program).decls ≡ None → Has (program_of program) (raw_of c)
      → IsInRange (seen file) → Starts c file first → Resumes puts with_frames first a v b → GoesOnInRun (raw_of c) (seen file) v

  -- Where no line was put up to such a boundary, and the world is run from there with its lines put, these are the rest of what is shown of
  -- the classes, cut by the panel that hears them.
  abbrev pub ClassesSkip : Type 0
  ClassesSkip =
      (c : RawClasses) (file : World0) (with_frames : Bool) (first v : Seen) (before after : Telling Silence) (a : A) (ears : Ears)
      (e : RunEnding) (b : Hearing A) → AreWhole (raw_of c) → HaveFewerPlaces (raw_of c) → IsInRange (seen file)
      → Starts c file first → Resumes (tells unkept) false first before v after
      → HeardRest puts with_frames v (watching a ears) e (whole b)
      → (part rest : List Line) × ClassShown with_frames (raw_of c) (seen file) (line.Head ∷ (part ++ rest))
      × Puts (tells puts) (whole a) (Cut ears rest) (whole b.out) × LastIs (last_line ears e) (Cut ears rest)

  -- And so of the classes of a text, of what is shown of that text.
  abbrev pub ProgramsSkip : Type 0
  ProgramsSkip =
      (text : List ℕ) (program : Program) (c : RawClasses) (file : World0) (with_frames : Bool) (first v : Seen)
      (before after : Telling Silence) (a : A) (ears : Ears) (e : RunEnding) (b : Hearing A) → IsSound text program
      → first_heavy (program_of program).decls ≡ None → Has (program_of program) (raw_of c) → IsInRange (seen file)
      → Starts c file first → Resumes (tells unkept) false first before v after
      → HeardRest puts with_frames v (watching a ears) e (whole b)
      → (part rest : List Line) × SourceShown with_frames (program_of program) (seen file) (line.Head ∷ (part ++ rest))
      × Puts (tells puts) (whole a) (Cut ears rest) (whole b.out) × LastIs (last_line ears e) (Cut ears rest)
