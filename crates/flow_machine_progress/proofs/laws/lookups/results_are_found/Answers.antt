use Rattle.flow_machine_progress.proofs.Lookups.Ending.{end_found}
use Rattle.flow_machine_progress.proofs.laws.lookups.results_are_found.Goals as goal

pub returns : goal.returns
returns c = end_found
