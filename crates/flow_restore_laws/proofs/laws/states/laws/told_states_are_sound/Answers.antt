use Rattle.flow_restore_laws.proofs.States.Worlds.{classes_told, programs_told}
use Rattle.flow_restore_laws.proofs.laws.states.laws.told_states_are_sound.Goals as goal

pub returns-clause-classes : goal.returns-clause-classes
returns-clause-classes g c = classes_told g.L.LineOut.puts

pub returns-clause-programs : goal.returns-clause-programs
returns-clause-programs g c = programs_told g.L.LineOut.puts
