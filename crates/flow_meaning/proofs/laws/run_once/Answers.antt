use Rattle.flow_meaning.proofs.Once.{run_once}
use Rattle.flow_meaning.proofs.laws.run_once.Goals as goal

pub returns : goal.returns
returns g c = run_once g.K.TwoKinds.first
