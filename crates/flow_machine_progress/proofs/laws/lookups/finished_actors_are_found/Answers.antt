use Rattle.flow_machine_progress.proofs.Lookups.Closing.{forget_found}
use Rattle.flow_machine_progress.proofs.laws.lookups.finished_actors_are_found.Goals as goal

pub returns : goal.returns
returns c = forget_found
