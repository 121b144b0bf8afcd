-- Sound programs and their classes have one trace in each world in range.
use Rattle.std.specs.Prelude.{ℕ, Bool, List}
use Rattle.std.specs.List.{AllByRecursion}
use Rattle.flow_tree.specs.declared.decl.Program.{Program}
use Rattle.flow_tree.specs.DeclView.{program_of}
use Rattle.flow_worldfile.specs.Worlds as file
use Rattle.flow_class.specs.Classes.{RawTree}
use Rattle.flow_compile_laws.specs.Frames.Framed.{SourceShown, ClassShown}
use Rattle.flow_lower.specs.Compiled.{compiled}
use Rattle.flow_front.specs.Verdict.{IsSound}
use Rattle.flow_meaning.specs.Boundaries.{ReferredIn}
use Rattle.flow_meaning.specs.Items.{Actor}
use Rattle.flow_meaning.specs.Runs.{SourceStates, SourceTrace, ClassTrace}
use Rattle.flow_meaning.specs.Source.{source}
use Rattle.flow_meaning.specs.World.{World}
use Rattle.flow_invariants.specs.Ended.{UnreferredEnd}
use Rattle.flow_invariants.specs.Fitting.Laws.{AreValid, OneTrace}
use Rattle.flow_invariants.specs.Unmarked.{AreWhole, StatesRest, StepsKeep}

-- the classes of a text that the front accepts
abbrev pub classes_of : Program → RawTree
classes_of program = compiled (program_of program)

-- They are valid, and written as the grammar of class text has classes.
abbrev pub CompilesWritten : Type 0
CompilesWritten = (text : List ℕ) (program : Program) → IsSound text program → AreValid (classes_of program)

-- In the world of each file in range they have one trace, and so has the program by its text.
abbrev pub ClassesRun : Type 0
ClassesRun =
    (text : List ℕ) (program : Program) (w : file.World) → IsSound text program → file.IsInRange w
    → OneTrace (ClassTrace (classes_of program) w)

abbrev pub SourcesRun : Type 0
SourcesRun =
    (text : List ℕ) (program : Program) (w : file.World) → IsSound text program → file.IsInRange w
    → OneTrace (SourceTrace (program_of program) w)

-- Exactly one list of lines is shown of such a program in such a world, with frames and without, and so of valid classes.
abbrev pub ClassesShowOne : Type 0
ClassesShowOne =
    (r : RawTree) (with_frames : Bool) (w : file.World) → AreValid r → file.IsInRange w → OneTrace (ClassShown with_frames r w)

abbrev pub SourcesShowOne : Type 0
SourcesShowOne =
    (text : List ℕ) (program : Program) (with_frames : Bool) (w : file.World) → IsSound text program → file.IsInRange w
    → OneTrace (SourceShown with_frames (program_of program) w)

-- Each group of a program's classes has a callback, so they keep within an event what they have to, and no unfinished actor is
-- marked at its end.
abbrev pub CompilesWhole : Type 0
CompilesWhole = (text : List ℕ) (program : Program) → IsSound text program → AreWhole (classes_of program)

abbrev pub ProgramsKeep : Type 0
ProgramsKeep = (text : List ℕ) (program : Program) → IsSound text program → StepsKeep (classes_of program)

abbrev pub ProgramsRest : Type 0
ProgramsRest = (text : List ℕ) (program : Program) → IsSound text program → StatesRest (classes_of program)

-- At each boundary of a run of the text no unfinished actor is marked as cancelled, and, unless it is void, a future
-- refers to its result, by what the actors' own variables hold.
abbrev pub SourcesReferred : Type 0
SourcesReferred =
    (text : List ℕ) (program : Program) (w : file.World) (states : List (World Actor)) → IsSound text program
    → file.IsInRange w → SourceStates (program_of program) w states
    → AllByRecursion (ReferredIn (source (program_of program))) states

-- In each event of such a run, unless it is spent, an actor to whose result no future refers any more has ended at
-- the end of the event.
abbrev pub SourcesEnd : Type 0
SourcesEnd =
    (text : List ℕ) (program : Program) (w : file.World) (states : List (World Actor)) → IsSound text program
    → file.IsInRange w → SourceStates (program_of program) w states
    → AllByRecursion (UnreferredEnd (source (program_of program))) states
