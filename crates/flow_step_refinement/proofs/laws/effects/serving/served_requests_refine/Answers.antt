use Rattle.flow_step_refinement.proofs.Effects.Served.{ask_served}
use Rattle.flow_step_refinement.proofs.laws.effects.serving.served_requests_refine.Goals as goal

pub returns : goal.returns
returns g c = ask_served g.H.Host.serves g.H.Host.shows g.H.Host.wrote
