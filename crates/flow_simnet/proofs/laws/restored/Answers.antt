use Rattle.flow_simnet.proofs.Restoring.{restores}
use Rattle.flow_simnet.proofs.laws.restored.Goals as goal

pub returns : goal.returns
returns c = restores
