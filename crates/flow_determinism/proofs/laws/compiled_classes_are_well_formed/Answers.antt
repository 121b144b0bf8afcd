use Rattle.flow_determinism.proofs.Written.{compiles_written}
use Rattle.flow_determinism.proofs.laws.compiled_classes_are_well_formed.Goals as goal

pub returns : goal.returns
returns c = compiles_written
