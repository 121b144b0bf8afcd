-- The class text of a program is read as classes that show what the program shows.
use Rattle.std.specs.Prelude.{◌≡◌, ◌≤◌, ℕ, Bool, List, length, Result, Ok, Err}
use Rattle.std.specs.declared.option.Option.TheVariants.{None}
use Rattle.flow_tree.specs.declared.decl.Program.{Program}
use Rattle.flow_tree.specs.Decls.{ProgramTree}
use Rattle.flow_tree.specs.DeclView.{program_of}
use Rattle.flow_trace.specs.declared.line.Line.{Line}
use Rattle.flow_worldfile.specs.Worlds as file
use Rattle.flow_class.specs.declared.class.RawClasses.{RawClasses}
use Rattle.flow_class.specs.Classes.{RawTree}
use Rattle.flow_class.specs.View.{raw_of}
use Rattle.flow_classprint.specs.ClassText.{ClassText}
use Rattle.flow_classread.specs.declared.fault.ClassFault.{ClassFault}
use Rattle.flow_classread.specs.declared.fault.ClassFault.TheVariants.{OutOfMemory}
use Rattle.flow_classread.specs.declared.read.TheConstants.{CLASS_BYTES}
use Rattle.flow_classread.specs.ClassAnswer.{ClassAnswer}
use Rattle.flow_front.specs.Verdict.{IsSound}
use Rattle.flow_lower.specs.Weighing.{first_heavy}
use Rattle.flow_lower.specs.Compiled.{Has}
use Rattle.flow_invariants.specs.Unmarked.{AreWhole}
use Rattle.flow_compile_laws.specs.Frames.Framed.{SourceShown, ClassShown}
use Rattle.flow_end_to_end.specs.Exact.{HaveFewPlaces}

-- Classes that may be run, and of which in every world, with frames and without, the same lines are shown as of a program by its text.
pub record ShowsProgram (p : ProgramTree) (raw : RawTree) : Type 0 where
  pub whole : AreWhole raw
  pub few : HaveFewPlaces raw
  pub of_text : (with_frames : Bool) (w : file.World) (lines : List Line) → SourceShown with_frames p w lines
      → ClassShown with_frames raw w lines
  pub of_classes : (with_frames : Bool) (w : file.World) (lines : List Line) → ClassShown with_frames raw w lines
      → SourceShown with_frames p w lines

-- such classes were read, or there was no memory
abbrev pub IsReadAsProgram : ProgramTree → Result RawClasses ClassFault → Type 0
IsReadAsProgram p (Ok c) = ShowsProgram p (raw_of c)
IsReadAsProgram p (Err OutOfMemory) = Unit {0}
IsReadAsProgram p (Err _) = ⊥

-- So the text of a program's own classes is read, where it is within the limit on bytes.
abbrev pub CompiledTextShowsProgram : Type 0
CompiledTextShowsProgram =
    (text : List ℕ) (program : Program) (raw : RawTree) (answer : Result RawClasses ClassFault) → IsSound text program
    → first_heavy (program_of program).decls ≡ None → Has (program_of program) raw → length (ClassText raw) ≤ CLASS_BYTES
    → ClassAnswer (ClassText raw) answer → IsReadAsProgram (program_of program) answer
