use Rattle.flow_machine_progress.proofs.Lookups.References.{none_missing}
use Rattle.flow_machine_progress.proofs.laws.lookups.references_are_found.Goals as goal

pub returns : goal.returns
returns c = none_missing
