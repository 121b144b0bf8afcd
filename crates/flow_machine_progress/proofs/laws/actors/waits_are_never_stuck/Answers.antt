use Rattle.flow_machine_progress.proofs.Actors.Choices.{choice_meant}
use Rattle.flow_machine_progress.proofs.laws.actors.waits_are_never_stuck.Goals as goal

pub returns : goal.returns
returns c = choice_meant
