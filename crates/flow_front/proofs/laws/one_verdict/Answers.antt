use Rattle.flow_parse.proofs.OneProgram.{one_program}
use Rattle.flow_front.proofs.OneVerdict.{one_verdict}
use Rattle.flow_front.proofs.laws.one_verdict.Goals as goal

pub returns : goal.returns
returns c = λ text. one_verdict one_program text
