use Rattle.flow_progress.proofs.Ending.{bursts_end}
use Rattle.flow_progress.proofs.Valid.{leads_on}
use Rattle.flow_progress.proofs.laws.every_burst_ends.Goals as goal

pub returns : goal.returns
returns g c = λ r v. bursts_end r (leads_on r v) g.K.Around.host
