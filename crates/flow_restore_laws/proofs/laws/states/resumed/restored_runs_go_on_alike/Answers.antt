use Rattle.flow_restore_laws.proofs.States.Onwards.{classes_go_on, programs_go_on}
use Rattle.flow_restore_laws.proofs.laws.states.resumed.restored_runs_go_on_alike.Goals as goal

pub returns-clause-classes : goal.returns-clause-classes
returns-clause-classes g c = classes_go_on g.L.LineOut.puts

pub returns-clause-programs : goal.returns-clause-programs
returns-clause-programs g c = programs_go_on g.L.LineOut.puts
