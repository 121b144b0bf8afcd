use Rattle.flow_lowering_laws.proofs.Programs.Whole.{compiles_faithfully}
use Rattle.flow_lowering_laws.proofs.laws.programs.compiled_classes_carry_program.Goals as goal

pub returns : goal.returns
returns c = compiles_faithfully
