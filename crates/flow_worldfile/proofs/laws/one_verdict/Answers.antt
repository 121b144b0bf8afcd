use Rattle.flow_worldfile.proofs.OneVerdict.{one_verdict}
use Rattle.flow_worldfile.proofs.laws.one_verdict.Goals as goal

pub returns : goal.returns
returns c = one_verdict
