use Rattle.flow_restore_laws.proofs.Rest.Boots.{boot_follows}
use Rattle.flow_restore_laws.proofs.laws.rest.booting.boots_refine.Goals as goal

pub returns : goal.returns
returns g c = boot_follows g.H.Host.serves g.H.Host.shows g.H.Host.wrote
