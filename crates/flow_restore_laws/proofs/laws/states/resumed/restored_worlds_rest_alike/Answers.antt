use Rattle.flow_restore_laws.proofs.States.Onwards.{classes_rest_alike, programs_rest_alike}
use Rattle.flow_restore_laws.proofs.laws.states.resumed.restored_worlds_rest_alike.Goals as goal

pub returns-clause-classes : goal.returns-clause-classes
returns-clause-classes g c = classes_rest_alike g.L.LineOut.puts

pub returns-clause-programs : goal.returns-clause-programs
returns-clause-programs g c = programs_rest_alike g.L.LineOut.puts
