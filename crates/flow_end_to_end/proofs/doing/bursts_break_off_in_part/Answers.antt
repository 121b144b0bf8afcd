use Rattle.flow_end_to_end.proofs.Parts.{all_bursts_in_part}
use Rattle.flow_end_to_end.proofs.doing.bursts_break_off_in_part.Goals as goal

pub returns : goal.returns
returns g c = all_bursts_in_part g.H.Host.serves g.H.Host.shows g.H.Host.wrote g.H.Host.broke
