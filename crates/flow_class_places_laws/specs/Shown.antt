-- What is shown of a run doesn't depend on places in the text.
use Rattle.std.specs.Prelude.{◌≡◌, Bool, List}
use Rattle.flow_tree.specs.Canon.{bare}
use Rattle.flow_tree.specs.Decls.{ProgramTree}
use Rattle.flow_trace.specs.declared.line.Line.{Line}
use Rattle.flow_worldfile.specs.Worlds as file
use Rattle.flow_class.specs.Classes.{RawTree}
use Rattle.flow_meaning.specs.Placeless.{placeless_classes}
use Rattle.flow_compile_laws.specs.Frames.Framed.{SourceShown, ClassShown}

-- Of classes that are equal but for places the same lines are shown in every world, with frames and without.
abbrev pub ClassesShownAside : Type 0
ClassesShownAside =
    (a b : RawTree) (with_frames : Bool) (w : file.World) (lines : List Line) → placeless_classes a ≡ placeless_classes b
    → ClassShown with_frames a w lines → ClassShown with_frames b w lines

-- And so of programs.
abbrev pub ProgramsShownAside : Type 0
ProgramsShownAside =
    (p q : ProgramTree) (with_frames : Bool) (w : file.World) (lines : List Line) → bare p ≡ bare q
    → SourceShown with_frames p w lines → SourceShown with_frames q w lines
