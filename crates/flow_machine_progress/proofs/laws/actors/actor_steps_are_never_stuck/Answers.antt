use Rattle.flow_machine_progress.proofs.Actors.Steps.{step_meant}
use Rattle.flow_machine_progress.proofs.laws.actors.actor_steps_are_never_stuck.Goals as goal

pub returns : goal.returns
returns c = step_meant
