use Rattle.flow_timers.proofs.Ordered.{restores}
use Rattle.flow_timers.proofs.laws.restored.Goals as goal

pub returns : goal.returns
returns g c = restores _
