use Rattle.flow_machine_progress.proofs.Bursts.Bursts.{all_bursts_sure}
use Rattle.flow_machine_progress.proofs.laws.bursts.laws.bursts_are_never_stuck.Goals as goal

pub returns : goal.returns
returns g c = all_bursts_sure g.H.Host.serves g.H.Host.shows g.H.Host.wrote g.H.Host.broke
