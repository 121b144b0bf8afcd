use Rattle.flow_tree.specs.DeclView.{program_of}
use Rattle.flow_lower.specs.Compiled.{compiled}
use Rattle.flow_lowering_laws.proofs.Programs.Whole.{compiles_faithfully}
use Rattle.flow_compile_laws.proofs.Traces.{are_carried}
use Rattle.flow_compile_laws.proofs.Frames.Alike.{shown_of_text, shown_of_classes}
use Rattle.flow_compile_laws.proofs.laws.frames.compile_preserves_shown_lines.Goals as goal

pub returns-clause-kept : goal.returns-clause-kept
returns-clause-kept c = λ text p f w lines h.
    shown_of_text (program_of p) (compiled (program_of p)) (are_carried p (compiles_faithfully text p h)) f w lines

pub returns-clause-returned : goal.returns-clause-returned
returns-clause-returned c = λ text p f w lines h.
    shown_of_classes (program_of p) (compiled (program_of p)) (are_carried p (compiles_faithfully text p h)) f w lines
