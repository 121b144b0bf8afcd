use Rattle.flow_machine_progress.proofs.Lookups.Closing.{bring_found}
use Rattle.flow_machine_progress.proofs.laws.lookups.delivery_cells_are_found.Goals as goal

pub returns : goal.returns
returns c = bring_found
