use Rattle.flow_machine_progress.proofs.Bursts.Brought.{spent_well, brought_well}
use Rattle.flow_machine_progress.proofs.laws.bursts.delivering.delivered_bursts_are_never_stuck.Goals as goal

pub returns-clause-spent : goal.returns-clause-spent
returns-clause-spent g c = spent_well g.H.Host.serves g.H.Host.shows g.H.Host.wrote g.H.Host.broke

pub returns-clause-brought : goal.returns-clause-brought
returns-clause-brought g c = brought_well g.H.Host.serves g.H.Host.shows g.H.Host.wrote g.H.Host.broke
