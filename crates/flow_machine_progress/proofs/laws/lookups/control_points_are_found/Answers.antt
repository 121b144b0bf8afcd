use Rattle.flow_machine_progress.proofs.Lookups.Standing.{stand_found}
use Rattle.flow_machine_progress.proofs.laws.lookups.control_points_are_found.Goals as goal

pub returns : goal.returns
returns c = stand_found
