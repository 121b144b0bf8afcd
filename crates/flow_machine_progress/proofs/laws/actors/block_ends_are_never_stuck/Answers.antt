use Rattle.flow_machine_progress.proofs.Actors.Ends.{end_meant}
use Rattle.flow_machine_progress.proofs.laws.actors.block_ends_are_never_stuck.Goals as goal

pub returns : goal.returns
returns c = end_meant
