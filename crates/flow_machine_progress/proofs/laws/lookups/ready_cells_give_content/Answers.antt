use Rattle.flow_machine_progress.proofs.Lookups.Taking.{taken_there}
use Rattle.flow_machine_progress.proofs.laws.lookups.ready_cells_give_content.Goals as goal

pub returns : goal.returns
returns c = taken_there
