use Rattle.flow_class_text_laws.proofs.Compiled.{compiled_few}
use Rattle.flow_class_text_laws.proofs.laws.compiled_classes_have_few_places.Goals as goal

pub returns : goal.returns
returns c = compiled_few
