use Rattle.flow_restore_laws.proofs.States.Sound.{heaps_sound}
use Rattle.flow_restore_laws.proofs.laws.states.heaps.resting_heaps_are_sound.Goals as goal

pub returns : goal.returns
returns c = heaps_sound
