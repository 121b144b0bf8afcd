use Rattle.flow_machine_progress.proofs.Actors.Instructions.{instruction_meant}
use Rattle.flow_machine_progress.proofs.laws.actors.instructions_are_never_stuck.Goals as goal

pub returns : goal.returns
returns c = instruction_meant
