use Rattle.flow_lex.proofs.Exists.{has_verdict}
use Rattle.flow_lex.proofs.laws.has_verdict.Goals as goal

pub returns : goal.returns
returns c = λ bytes. has_verdict bytes
