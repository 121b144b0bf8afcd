use Rattle.flow_restore_laws.proofs.States.Onwards.{classes_go_onward, programs_go_onward}
use Rattle.flow_restore_laws.proofs.laws.states.skipped.boundaries_go_on.Goals as goal

pub returns-clause-classes : goal.returns-clause-classes
returns-clause-classes g c = classes_go_onward g.L.LineOut.puts

pub returns-clause-programs : goal.returns-clause-programs
returns-clause-programs g c = programs_go_onward g.L.LineOut.puts
