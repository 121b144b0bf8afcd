use Rattle.flow_end_to_end.proofs.Mains.{boot_well, boot_in_part}
use Rattle.flow_end_to_end.proofs.doing.boots_are_never_stuck.Goals as goal

pub returns-clause-never : goal.returns-clause-never
returns-clause-never g c = boot_well g.H.Host.serves g.H.Host.shows g.H.Host.wrote g.H.Host.broke

pub returns-clause-part : goal.returns-clause-part
returns-clause-part g c = boot_in_part g.H.Host.serves g.H.Host.shows g.H.Host.wrote g.H.Host.broke
