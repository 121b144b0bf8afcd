use Rattle.flow_world_refinement.proofs.Effects.Doing.{deeds_follow}
use Rattle.flow_world_refinement.proofs.laws.effects.event_actions_refine.Goals as goal

pub returns : goal.returns
returns g c = deeds_follow g.L.LineOut.puts
