-- A run in memory of the classes of a program shows what the program shows by its text.
use Rattle.std.specs.Prelude.{◌≡◌, ◌≤◌, ◌+◌, ◌^◌, ℕ, Bool, List, ◌++◌, length, slice_get, Result}
use Rattle.std.specs.declared.option.Option.TheVariants.{None, Some}
use Rattle.flow_base.specs.declared.fault.OutFault.{OutFault}
use Rattle.flow_tree.specs.declared.decl.Program.{Program}
use Rattle.flow_tree.specs.DeclView.{program_of}
use Rattle.flow_trace.specs.declared.line.Line.{Line}
use Rattle.flow_worldfile.specs.declared.world.World0.{World0}
use Rattle.flow_worldfile.specs.Worlds.{IsInRange, seen}
use Rattle.flow_class.specs.Classes.{ClassTree, RawTree}
use Rattle.flow_class.specs.declared.class.RawClasses.{RawClasses}
use Rattle.flow_class.specs.View.{raw_of}
use Rattle.flow_front.specs.Verdict.{IsSound}
use Rattle.flow_lower.specs.Weighing.{first_heavy}
use Rattle.flow_lower.specs.Compiled.{Has}
use Rattle.flow_invariants.specs.Unmarked.{AreWhole}
use Rattle.flow_world.specs.Around.{Puts}
use Rattle.flow_world.specs.FaultedLines.{tells, whole, failed}
use Rattle.flow_world.specs.declared.ending.Ending.{Ending}
use Rattle.flow_world.specs.Ends.{end_line, LastIs}
use Rattle.flow_world.specs.Tracing.{Traces, Begins, TracesPart}
use Rattle.flow_compile_laws.specs.Frames.Framed.{SourceShown, ClassShown}

-- each class has 2^32 places at most
abbrev pub HaveFewPlaces : RawTree → Type 0
HaveFewPlaces r = (k : ℕ) (c : ClassTree) → slice_get r.classes k ≡ Some c → length c.slots + length c.locals ≤ 2 ^ 32

module _ {A : Type 0} (puts : A → Line → Result (Unit {0}) OutFault → A → Type 0) where
  -- The lines that are put of valid classes, in a world in range, are what is shown of them, and end as the run does.
  abbrev pub ClassesShown : Type 0
  ClassesShown =
      (c : RawClasses) (file : World0) (with_frames : Bool) (a b : A) (e : Ending) → AreWhole (raw_of c) → HaveFewPlaces (raw_of c)
      → IsInRange (seen file) → Traces puts with_frames c file a e b
      → (lines : List Line) × ClassShown with_frames (raw_of c) (seen file) lines × Puts puts a lines b × LastIs (end_line e) lines

  -- Those of the classes of a text are what is shown of the text: one that the front accepts, in which no use of a local is lost
  -- and no actor weighs too much.
  abbrev pub ProgramShown : Type 0
  ProgramShown =
      (text : List ℕ) (program : Program) (c : RawClasses) (file : World0) (with_frames : Bool) (a b : A) (e : Ending)
      → IsSound text program → first_heavy (program_of program).decls ≡ None → Has (program_of program) (raw_of c)
      → IsInRange (seen file) → Traces puts with_frames c file a e b
      → (lines : List Line) × SourceShown with_frames (program_of program) (seen file) lines × Puts puts a lines b
      × LastIs (end_line e) lines

  -- Of valid classes what is put of a trace that has begun is a first part of what is shown of them.
  abbrev pub ClassesBegun : Type 0
  ClassesBegun =
      (c : RawClasses) (file : World0) (with_frames : Bool) (a b : A) → AreWhole (raw_of c) → HaveFewPlaces (raw_of c)
      → IsInRange (seen file) → Begins puts with_frames c file a b
      → (part rest : List Line) × ClassShown with_frames (raw_of c) (seen file) (part ++ rest) × Puts puts a part b

  -- Where a line of the classes of a text failed, all that is shown of the text was told, up to that line.
  abbrev pub ProgramInPart : Type 0
  ProgramInPart =
      (text : List ℕ) (program : Program) (c : RawClasses) (file : World0) (with_frames : Bool) (a b : A)
      → IsSound text program → first_heavy (program_of program).decls ≡ None → Has (program_of program) (raw_of c)
      → IsInRange (seen file) → TracesPart (tells puts) with_frames c file (whole a) (failed b)
      → (lines : List Line) × SourceShown with_frames (program_of program) (seen file) lines
      × Puts (tells puts) (whole a) lines (failed b)
