use Rattle.flow_meaning.proofs.BurstOnce.{burst_once}
use Rattle.flow_meaning.proofs.laws.burst_once.Goals as goal

pub returns : goal.returns
returns g c = burst_once g.K.TwoKinds.first g.K.TwoKinds.host
