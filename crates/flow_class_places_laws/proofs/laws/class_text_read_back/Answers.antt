use Rattle.flow_class_places_laws.proofs.ReadBack.Texts.{class_text_read_back}
use Rattle.flow_class_places_laws.proofs.laws.class_text_read_back.Goals as goal

pub returns : goal.returns
returns c = class_text_read_back
