use Rattle.flow_explain.proofs.ReadBack.{read_back}
use Rattle.flow_explain.proofs.laws.lines_read_back.Goals as goal

pub returns : goal.returns
returns c = read_back
