use Rattle.flow_validity_laws.proofs.Tested.{keeps_rules}
use Rattle.flow_validity_laws.proofs.laws.compiled_classes_keep_v1_to_v7.Goals as goal

pub returns : goal.returns
returns c = keeps_rules
