-- Compiled programs do what their text says.
use Rattle.std.specs.Prelude.{ℕ, List}
use Rattle.flow_tree.specs.declared.decl.Program.{Program}
use Rattle.flow_tree.specs.DeclView.{program_of}
use Rattle.flow_trace.specs.declared.line.Line.{Line}
use Rattle.flow_worldfile.specs.Worlds as file
use Rattle.flow_meaning.specs.Runs.{SourceTrace, ClassTrace}
use Rattle.flow_meaning.specs.Observations.{Observation, SourceSeen, ClassSeen}
use Rattle.flow_lower.specs.Compiled.{compiled}
use Rattle.flow_front.specs.Verdict.{IsTyped}

-- Of each text that is a program, in which no rule K1 to K12 or L8 fails, the classes have in every world the traces that
-- the text says, and no others.
abbrev pub TracesPreserved : Type 0
TracesPreserved =
    (text : List ℕ) (program : Program) (w : file.World) (lines : List Line)
    → IsTyped text program → SourceTrace (program_of program) w lines → ClassTrace (compiled (program_of program)) w lines

abbrev pub TracesReflected : Type 0
TracesReflected =
    (text : List ℕ) (program : Program) (w : file.World) (lines : List Line)
    → IsTyped text program → ClassTrace (compiled (program_of program)) w lines → SourceTrace (program_of program) w lines

-- And at each boundary of events they show the unfinished actors, the waits and the branches that the text says.
abbrev pub ObservationsPreserved : Type 0
ObservationsPreserved =
    (text : List ℕ) (program : Program) (w : file.World) (lines : List Line) (sights : List Observation)
    → IsTyped text program → SourceSeen (program_of program) w lines sights → ClassSeen (compiled (program_of program)) w lines sights

abbrev pub ObservationsReflected : Type 0
ObservationsReflected =
    (text : List ℕ) (program : Program) (w : file.World) (lines : List Line) (sights : List Observation)
    → IsTyped text program → ClassSeen (compiled (program_of program)) w lines sights → SourceSeen (program_of program) w lines sights
