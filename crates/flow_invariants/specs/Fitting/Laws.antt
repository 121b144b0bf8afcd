-- In each world in range valid classes have one trace.
use Rattle.std.specs.Prelude.{◌≡◌, List}
use Rattle.std.specs.List.{AllByRecursion}
use Rattle.std.specs.declared.option.Option.TheVariants.{None, Some}
use Rattle.flow_trace.specs.declared.line.Line.{Line}
use Rattle.flow_worldfile.specs.Worlds as file
use Rattle.flow_class.specs.Classes.{RawTree}
use Rattle.flow_valid.specs.Validity.{IsValid}
use Rattle.flow_meaning.specs.Burst.{Live, Burst}
use Rattle.flow_meaning.specs.Outside.{Outside, host}
use Rattle.flow_meaning.specs.World.{World, Begun, next_of, begun_by, ending, at_start}
use Rattle.flow_meaning.specs.Runs.{before, after, ClassStates, ClassTrace}
use Rattle.flow_meaning.specs.Frame.{Frame}
use Rattle.flow_meaning.specs.Class.{classes}
use Rattle.flow_progress.specs.Written.{AreWritten, FunctionsWritten}
use Rattle.flow_progress.specs.Existing.{GetsStuck}
use Rattle.flow_invariants.specs.Fitting.Among.{WorldFits}

-- valid classes as the grammar of class text has them, whose places have numbers that can be written
pub record AreValid (r : RawTree) : Type 0 where
  pub valid : IsValid r
  pub written : AreWritten r
  pub functions : FunctionsWritten r

-- a world at its start, where its file is in range
abbrev pub StartsFit : RawTree → Type 0
StartsFit r = (w : file.World) → file.IsInRange w → WorldFits r (at_start w)

-- An event keeps a world fitting, unless it is stopped.
abbrev pub EventsKeepFitting : RawTree → Type 0
EventsKeepFitting r =
    (w : World Frame) (b : Begun Frame) (l : Live Outside Frame) → WorldFits r w
    → ending w.out (next_of w.out) ≡ None → begun_by (classes r) w (next_of w.out) ≡ Some b → Burst (classes r) host (before b) l
    → l.proc.core.halted ≡ None → WorldFits r (after w b l)

-- No run comes to what has no meaning.
abbrev pub NeverStuck : RawTree → Type 0
NeverStuck r = (w : World Frame) → WorldFits r w → GetsStuck r w → ⊥

-- So at each boundary of a run in the world of a file in range the world fits.
abbrev pub StatesFit : RawTree → Type 0
StatesFit r =
    (w : file.World) (states : List (World Frame)) → file.IsInRange w → ClassStates r w states
    → AllByRecursion (WorldFits r) states

-- there is a trace in this world, and only one
pub record OneTrace (trace : List Line → Type 0) : Type 0 where
  pub lines : List Line
  pub is : trace lines
  pub only : (more : List Line) → trace more → more ≡ lines

abbrev pub RunsExist : RawTree → Type 0
RunsExist r = (w : file.World) → file.IsInRange w → OneTrace (ClassTrace r w)
