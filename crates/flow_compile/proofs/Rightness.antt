-- What the laws say of the classes of one program.
use Rattle.std.proofs.Common.{◌≡◌, subst}
use Rattle.flow_tree.specs.declared.decl.Program.{Program}
use Rattle.flow_tree.specs.DeclView.{program_of}
use Rattle.flow_class.specs.Classes.{RawTree}
use Rattle.flow_valid.specs.Validity.{IsValid}
use Rattle.flow_lower.specs.Compiled.{compiled, Has}
use Rattle.flow_validity_laws.specs.Laws.{CompilesValid}
use Rattle.flow_lowering_laws.specs.Programs.{CompilesFaithfully}
use Rattle.flow_compile_laws.specs.Traces.{TracesPreserved, TracesReflected, ObservationsPreserved, ObservationsReflected}
use Rattle.flow_compile.specs.Right.{IsAccepted, IsRight}

pub valid_classes : (program : Program) (r : RawTree) → CompilesValid → IsAccepted program → r ≡ compiled (program_of program) → IsValid r
valid_classes program r valid a e = rw e (valid a.0 program a.1)

pub right_classes : (program : Program) (r : RawTree) → CompilesValid → CompilesFaithfully → TracesPreserved → TracesReflected → ObservationsPreserved → ObservationsReflected
    → IsAccepted program → r ≡ compiled (program_of program) → IsRight (program_of program) r
right_classes program r valid faithful traces traces_back views views_back a e =
    let f = faithful a.0 program a.1.typed in
    rw e (record {
      valid = valid a.0 program a.1;
      shape = f.shape;
      carries = f.carries;
      traces = λ w lines. traces a.0 program w lines a.1.typed;
      traces_back = λ w lines. traces_back a.0 program w lines a.1.typed;
      views = λ w lines sights. views a.0 program w lines sights a.1.typed;
      views_back = λ w lines sights. views_back a.0 program w lines sights a.1.typed;
    })
