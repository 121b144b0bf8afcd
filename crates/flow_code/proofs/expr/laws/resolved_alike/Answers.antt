use Rattle.flow_code.proofs.Resolved.Alike.{resolved_alike}
use Rattle.flow_code.proofs.expr.laws.resolved_alike.Goals as goal

pub returns : goal.returns
returns c = resolved_alike
