use Rattle.flow_machine_progress.proofs.Lookups.Closing.{handler_found}
use Rattle.flow_machine_progress.proofs.laws.lookups.handler_places_are_found.Goals as goal

pub returns : goal.returns
returns c = handler_found
