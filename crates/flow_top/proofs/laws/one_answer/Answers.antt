use Rattle.flow_top.proofs.OneAnswer.{one_answer}
use Rattle.flow_top.proofs.laws.one_answer.Goals as goal

pub returns : goal.returns
returns c = one_answer c.one_verdict.ensures c.one_verdict-2.ensures c.class_texts_have_one_answer.ensures
