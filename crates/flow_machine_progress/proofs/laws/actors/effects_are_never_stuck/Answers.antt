use Rattle.flow_machine_progress.proofs.Actors.Effects.{effect_meant}
use Rattle.flow_machine_progress.proofs.laws.actors.effects_are_never_stuck.Goals as goal

pub returns : goal.returns
returns c = effect_meant
