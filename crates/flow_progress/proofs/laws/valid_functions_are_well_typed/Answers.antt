use Rattle.flow_progress.proofs.Functions.{functions_kept}
use Rattle.flow_progress.proofs.laws.valid_functions_are_well_typed.Goals as goal

pub returns : goal.returns
returns c = functions_kept
