use Rattle.flow_machine_progress.proofs.Lookups.Losing.{loss_found}
use Rattle.flow_machine_progress.proofs.laws.lookups.lost_cells_are_found.Goals as goal

pub returns : goal.returns
returns c = loss_found
