use Rattle.flow_world_refinement.proofs.Effects.Settling.{stays_settled}
use Rattle.flow_world_refinement.proofs.laws.effects.processes_stay_quiescent.Goals as goal

pub returns : goal.returns
returns c = stays_settled
