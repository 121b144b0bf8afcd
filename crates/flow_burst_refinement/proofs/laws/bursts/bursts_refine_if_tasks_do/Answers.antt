use Rattle.flow_burst_refinement.proofs.Bursts.Rows.{burst_follows}
use Rattle.flow_burst_refinement.proofs.laws.bursts.bursts_refine_if_tasks_do.Goals as goal

pub returns : goal.returns
returns g c = burst_follows g.H.Host.serves g.H.Host.shows g.H.Host.wrote
