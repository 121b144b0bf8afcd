-- A run in memory that a panel hears puts what is shown, up to where a monitor says Stop; one that fails a first part of that.
use Rattle.std.specs.Prelude.{◌≡◌, ℕ, List, Bool, Result}
use Rattle.std.specs.declared.option.Option.{Option}
use Rattle.std.specs.declared.option.Option.TheVariants.{None}
use Rattle.flow_base.specs.Bytes.{AppendsPart}
use Rattle.flow_base.specs.declared.fault.OutFault.{OutFault}
use Rattle.flow_tree.specs.declared.decl.Program.{Program}
use Rattle.flow_tree.specs.DeclView.{program_of}
use Rattle.flow_trace.specs.declared.line.Line.{Line}
use Rattle.flow_monitor.specs.Cut.{Cut}
use Rattle.flow_monitor.specs.Ears.{Ears}
use Rattle.flow_worldfile.specs.declared.world.World0.{World0}
use Rattle.flow_worldfile.specs.Worlds.{IsInRange, seen}
use Rattle.flow_class.specs.declared.class.RawClasses.{RawClasses}
use Rattle.flow_class.specs.View.{raw_of}
use Rattle.flow_front.specs.Verdict.{IsSound}
use Rattle.flow_lower.specs.Weighing.{first_heavy}
use Rattle.flow_lower.specs.Compiled.{Has}
use Rattle.flow_invariants.specs.Unmarked.{AreWhole}
use Rattle.flow_world.specs.declared.run_ending.RunEnding.{RunEnding}
use Rattle.flow_machine.specs.declared.host.RunFault.{RunFault}
use Rattle.flow_machine.specs.declared.host.RunFault.TheVariants.{Stuck}
use Rattle.flow_world.specs.Around.{Puts, PutsPart}
use Rattle.flow_world.specs.BreakingTraces.{TraceFails}
use Rattle.flow_world.specs.Ends.{LastIs}
use Rattle.flow_world.specs.FaultedLines.{tells, telling, whole, failed}
use Rattle.flow_world.specs.Watching.{Hearing, watching}
use Rattle.flow_world.specs.WatchedTraces.{HeardTrace, HeardTracePart, last_line}
use Rattle.flow_world.specs.Written.{put_bytes, bytes_of}
use Rattle.flow_compile_laws.specs.Frames.Framed.{SourceShown, ClassShown}
use Rattle.flow_end_to_end.specs.Exact.{HaveFewPlaces}

module _ {A : Type 0} (puts : A → Line → Result (Unit {0}) OutFault → A → Type 0) where
  -- What is put of valid classes, in a world in range, is what is shown of them, cut by the panel, and ends as the run does.
  abbrev pub ClassesCut : Type 0
  ClassesCut =
      (c : RawClasses) (file : World0) (with_frames : Bool) (a : A) (ears : Ears) (e : RunEnding) (b : Hearing A) → AreWhole (raw_of c)
      → HaveFewPlaces (raw_of c) → IsInRange (seen file) → HeardTrace puts with_frames c file (watching a ears) e (whole b)
      → (lines : List Line) × ClassShown with_frames (raw_of c) (seen file) lines
      × Puts (tells puts) (whole a) (Cut ears lines) (whole b.out)
      × LastIs (last_line ears e) (Cut ears lines)

  -- Where a line failed, that was told up to this line.
  abbrev pub ClassesCutInPart : Type 0
  ClassesCutInPart =
      (c : RawClasses) (file : World0) (with_frames : Bool) (a : A) (ears : Ears) (b : Hearing A) → AreWhole (raw_of c)
      → HaveFewPlaces (raw_of c) → IsInRange (seen file) → HeardTracePart puts with_frames c file (watching a ears) b
      → (lines : List Line) × ClassShown with_frames (raw_of c) (seen file) lines
      × Puts (tells puts) (whole a) (Cut ears lines) (failed b.out)

  -- The same of the classes of a text, by what is shown of the text.
  abbrev pub ProgramCut : Type 0
  ProgramCut =
      (text : List ℕ) (program : Program) (c : RawClasses) (file : World0) (with_frames : Bool) (a : A) (ears : Ears)
      (e : RunEnding) (b : Hearing A)
      → IsSound text program → first_heavy (program_of program).decls ≡ None → Has (program_of program) (raw_of c)
      → IsInRange (seen file) → HeardTrace puts with_frames c file (watching a ears) e (whole b)
      → (lines : List Line) × SourceShown with_frames (program_of program) (seen file) lines
      × Puts (tells puts) (whole a) (Cut ears lines) (whole b.out) × LastIs (last_line ears e) (Cut ears lines)

  abbrev pub ProgramCutInPart : Type 0
  ProgramCutInPart =
      (text : List ℕ) (program : Program) (c : RawClasses) (file : World0) (with_frames : Bool) (a : A) (ears : Ears) (b : Hearing A)
      → IsSound text program → first_heavy (program_of program).decls ≡ None → Has (program_of program) (raw_of c)
      → IsInRange (seen file) → HeardTracePart puts with_frames c file (watching a ears) b
      → (lines : List Line) × SourceShown with_frames (program_of program) (seen file) lines
      × Puts (tells puts) (whole a) (Cut ears lines) (failed b.out)

  -- A run of valid classes that fails isn't stuck. What was told till then, whatever failed, is a first part of what is shown of them, cut
  -- by the panel.
  abbrev pub ClassesFailInPart : Type 0
  ClassesFailInPart =
      (c : RawClasses) (file : World0) (with_frames : Bool) (a : A) (ears : Ears) (f : RunFault) (b : Hearing A) (fault : Option OutFault)
      → AreWhole (raw_of c) → HaveFewPlaces (raw_of c) → IsInRange (seen file)
      → TraceFails puts with_frames c file (watching a ears) f (telling b fault)
      → (f ≡ Stuck → ⊥) × ((lines : List Line) × ClassShown with_frames (raw_of c) (seen file) lines
      × PutsPart (tells puts) (whole a) (Cut ears lines) (telling b.out fault))

  -- nor is one of the classes of a text, and what was told is a first part of what is shown of the text
  abbrev pub ProgramFailsInPart : Type 0
  ProgramFailsInPart =
      (text : List ℕ) (program : Program) (c : RawClasses) (file : World0) (with_frames : Bool) (a : A) (ears : Ears) (f : RunFault)
      (b : Hearing A) (fault : Option OutFault) → IsSound text program → first_heavy (program_of program).decls ≡ None
      → Has (program_of program) (raw_of c) → IsInRange (seen file)
      → TraceFails puts with_frames c file (watching a ears) f (telling b fault)
      → (f ≡ Stuck → ⊥) × ((lines : List Line) × SourceShown with_frames (program_of program) (seen file) lines
      × PutsPart (tells puts) (whole a) (Cut ears lines) (telling b.out fault))

-- So where lines are written: a first part of their bytes was.
abbrev pub ClassesWrittenInPart : Type 0
ClassesWrittenInPart =
    (c : RawClasses) (file : World0) (with_frames : Bool) (a : Option (List ℕ)) (ears : Ears) (f : RunFault)
    (b : Hearing (Option (List ℕ))) (fault : Option OutFault) → AreWhole (raw_of c) → HaveFewPlaces (raw_of c)
    → IsInRange (seen file) → TraceFails put_bytes with_frames c file (watching a ears) f (telling b fault)
    → (f ≡ Stuck → ⊥)
    × ((lines : List Line) × ClassShown with_frames (raw_of c) (seen file) lines × AppendsPart a b.out (bytes_of (Cut ears lines)))

abbrev pub ProgramWrittenInPart : Type 0
ProgramWrittenInPart =
    (text : List ℕ) (program : Program) (c : RawClasses) (file : World0) (with_frames : Bool) (a : Option (List ℕ)) (ears : Ears)
    (f : RunFault) (b : Hearing (Option (List ℕ))) (fault : Option OutFault) → IsSound text program
    → first_heavy (program_of program).decls ≡ None → Has (program_of program) (raw_of c) → IsInRange (seen file)
    → TraceFails put_bytes with_frames c file (watching a ears) f (telling b fault)
    → (f ≡ Stuck → ⊥)
    × ((lines : List Line) × SourceShown with_frames (program_of program) (seen file) lines
    × AppendsPart a b.out (bytes_of (Cut ears lines)))
