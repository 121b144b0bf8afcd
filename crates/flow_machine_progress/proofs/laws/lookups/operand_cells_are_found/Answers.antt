use Rattle.flow_machine_progress.proofs.Lookups.References.{cells_there}
use Rattle.flow_machine_progress.proofs.laws.lookups.operand_cells_are_found.Goals as goal

pub returns : goal.returns
returns c = cells_there
