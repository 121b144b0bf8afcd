-- What is right of the classes of a program.
use Rattle.std.specs.Prelude.{ℕ, List}
use Rattle.flow_tree.specs.declared.decl.Program.{Program}
use Rattle.flow_tree.specs.Decls.{ProgramTree}
use Rattle.flow_trace.specs.declared.line.Line.{Line}
use Rattle.flow_worldfile.specs.Worlds as file
use Rattle.flow_class.specs.Classes.{RawTree}
use Rattle.flow_meaning.specs.Runs.{SourceTrace, ClassTrace}
use Rattle.flow_meaning.specs.Shape.{Shape}
use Rattle.flow_meaning.specs.Carries.{CarriesProgram}
use Rattle.flow_meaning.specs.Observations.{Observation, SourceSeen, ClassSeen}
use Rattle.flow_valid.specs.Validity.{IsValid}
use Rattle.flow_front.specs.Verdict.{IsSound}

-- some text is this program, and the front accepts it
abbrev pub IsAccepted : Program → Type 0
IsAccepted program = (text : List ℕ) × IsSound text program

-- The classes keep the rules, one class for each actor, with its slots and groups; they carry each actor. In every world they have
-- the program's traces and no others, and show at each boundary of events the unfinished actors, waits and branches of its text.
pub record IsRight (p : ProgramTree) (c : RawTree) : Type 0 where
  pub valid : IsValid c
  pub shape : Shape p c
  pub carries : CarriesProgram p c
  pub traces : (w : file.World) (lines : List Line) → SourceTrace p w lines → ClassTrace c w lines
  pub traces_back : (w : file.World) (lines : List Line) → ClassTrace c w lines → SourceTrace p w lines
  pub views : (w : file.World) (lines : List Line) (sights : List Observation) → SourceSeen p w lines sights → ClassSeen c w lines sights
  pub views_back : (w : file.World) (lines : List Line) (sights : List Observation) → ClassSeen c w lines sights
      → SourceSeen p w lines sights
