use Rattle.flow_validity_laws.proofs.Filled.{all_valid}
use Rattle.flow_validity_laws.proofs.laws.compiled_classes_are_valid.Goals as goal

pub returns : goal.returns
returns c = all_valid
