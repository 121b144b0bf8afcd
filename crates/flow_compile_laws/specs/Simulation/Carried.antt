-- The core law: classes of a program's shape that carry its actors do what the text says.
use Rattle.std.specs.Prelude.{List}
use Rattle.std.specs.List.{AllByRecursion}
use Rattle.flow_tree.specs.Decls.{ProgramTree}
use Rattle.flow_class.specs.Classes.{RawTree}
use Rattle.flow_trace.specs.declared.line.Line.{Line}
use Rattle.flow_worldfile.specs.Worlds as file
use Rattle.flow_meaning.specs.Runs.{SourceTrace, ClassTrace}
use Rattle.flow_meaning.specs.Observations.{Observation, SourceSeen, ClassSeen}
use Rattle.flow_meaning.specs.Shape.{Shape}
use Rattle.flow_meaning.specs.Carries.{CarriesProgram}
use Rattle.flow_compile_laws.specs.Simulation.Memories.{IsNumbered}

-- The classes are those of the program, and each carries its actor.
pub record AreCarried (p : ProgramTree) (r : RawTree) : Type 0 where
  pub shape : Shape p r
  pub carries : CarriesProgram p r
  pub numbered : AllByRecursion IsNumbered r.classes

-- Then in every world the classes have the traces of the program, and no others.
abbrev pub TracesOfText : Type 0
TracesOfText =
    (p : ProgramTree) (r : RawTree) (w : file.World) (lines : List Line)
    → AreCarried p r → SourceTrace p w lines → ClassTrace r w lines

abbrev pub TracesOfClasses : Type 0
TracesOfClasses =
    (p : ProgramTree) (r : RawTree) (w : file.World) (lines : List Line)
    → AreCarried p r → ClassTrace r w lines → SourceTrace p w lines

-- And at each boundary of events they show the same unfinished actors, at the same waits, with the same branches.
abbrev pub ObservationsOfText : Type 0
ObservationsOfText =
    (p : ProgramTree) (r : RawTree) (w : file.World) (lines : List Line) (sights : List Observation)
    → AreCarried p r → SourceSeen p w lines sights → ClassSeen r w lines sights

abbrev pub ObservationsOfClasses : Type 0
ObservationsOfClasses =
    (p : ProgramTree) (r : RawTree) (w : file.World) (lines : List Line) (sights : List Observation)
    → AreCarried p r → ClassSeen r w lines sights → SourceSeen p w lines sights
