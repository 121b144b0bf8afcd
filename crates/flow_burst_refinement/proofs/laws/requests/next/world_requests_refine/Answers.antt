use Rattle.flow_burst_refinement.proofs.Requests.Worlds.{world_asked}
use Rattle.flow_burst_refinement.proofs.laws.requests.next.world_requests_refine.Goals as goal

pub returns : goal.returns
returns g c = world_asked g.H.Host.serves g.H.Host.shows g.H.Host.wrote
