use Rattle.flow_world.specs.FaultedLines.{tells}
use Rattle.flow_world.specs.Skipping.{unkept}
use Rattle.flow_restore_laws.proofs.States.Worlds.{classes_told, programs_told}
use Rattle.flow_restore_laws.proofs.laws.states.skipped.skipped_states_are_sound.Goals as goal

pub returns-clause-classes : goal.returns-clause-classes
returns-clause-classes c = classes_told (tells unkept)

pub returns-clause-programs : goal.returns-clause-programs
returns-clause-programs c = programs_told (tells unkept)
