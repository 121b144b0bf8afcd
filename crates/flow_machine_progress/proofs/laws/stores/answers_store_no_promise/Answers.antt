use Rattle.flow_machine_progress.proofs.Stores.Served.{served_stores}
use Rattle.flow_machine_progress.proofs.laws.stores.answers_store_no_promise.Goals as goal

pub returns : goal.returns
returns g c = served_stores g.H.Host.serves g.H.Host.shows g.H.Host.wrote
