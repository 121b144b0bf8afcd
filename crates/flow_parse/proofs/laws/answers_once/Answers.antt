use Rattle.flow_parse.proofs.OneAnswer.{one_answer}
use Rattle.flow_parse.proofs.laws.answers_once.Goals as goal

pub returns : goal.returns
returns c = one_answer
