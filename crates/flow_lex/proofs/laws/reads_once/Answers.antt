use Rattle.flow_lex.proofs.Once.{reads_once}
use Rattle.flow_lex.proofs.laws.reads_once.Goals as goal

pub returns : goal.returns
returns c = λ bytes. reads_once bytes
