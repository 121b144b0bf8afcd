use Rattle.flow_class_reading_laws.proofs.Once.{one_answer}
use Rattle.flow_class_reading_laws.proofs.laws.class_texts_have_one_answer.Goals as goal

pub returns : goal.returns
returns c = one_answer
