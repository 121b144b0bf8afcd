-- What is shown of a program is what is shown of the classes that it is compiled to; without frames it is
-- the trace.
use Rattle.std.specs.Prelude.{ℕ, Bool, false, List}
use Rattle.flow_tree.specs.declared.decl.Program.{Program}
use Rattle.flow_tree.specs.Decls.{ProgramTree}
use Rattle.flow_tree.specs.DeclView.{program_of}
use Rattle.flow_trace.specs.declared.line.Line.{Line}
use Rattle.flow_worldfile.specs.Worlds as file
use Rattle.flow_class.specs.Classes.{RawTree}
use Rattle.flow_meaning.specs.Runs.{SourceTrace, ClassTrace}
use Rattle.flow_lower.specs.Compiled.{compiled}
use Rattle.flow_front.specs.Verdict.{IsTyped}
use Rattle.flow_compile_laws.specs.Frames.Framed.{SourceShown, ClassShown}

-- without frames
abbrev pub TraceShown : Type 0
TraceShown =
    (p : ProgramTree) (w : file.World) (lines : List Line) → SourceShown false p w lines
    → SourceTrace p w lines

abbrev pub ClassTraceShown : Type 0
ClassTraceShown =
    (r : RawTree) (w : file.World) (lines : List Line) → ClassShown false r w lines → ClassTrace r w lines

-- of each text that is a program, in which no rule K1 to K12 or L8 fails
abbrev pub ShownReturned : Type 0
ShownReturned =
    (text : List ℕ) (program : Program) (with_frames : Bool) (w : file.World) (lines : List Line)
    → IsTyped text program → ClassShown with_frames (compiled (program_of program)) w lines
    → SourceShown with_frames (program_of program) w lines

abbrev pub ShownKept : Type 0
ShownKept =
    (text : List ℕ) (program : Program) (with_frames : Bool) (w : file.World) (lines : List Line)
    → IsTyped text program → SourceShown with_frames (program_of program) w lines
    → ClassShown with_frames (compiled (program_of program)) w lines
