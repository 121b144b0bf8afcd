use Rattle.flow_class_text_laws.proofs.Compiled.{class_text_exists}
use Rattle.flow_class_text_laws.proofs.laws.compiled_classes_have_text.Goals as goal

pub returns : goal.returns
returns c = class_text_exists
