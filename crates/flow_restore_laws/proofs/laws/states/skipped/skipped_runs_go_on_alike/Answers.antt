use Rattle.flow_restore_laws.proofs.States.Onwards.{classes_skip, programs_skip}
use Rattle.flow_restore_laws.proofs.laws.states.skipped.skipped_runs_go_on_alike.Goals as goal

pub returns-clause-classes : goal.returns-clause-classes
returns-clause-classes g c = classes_skip g.L.LineOut.puts

pub returns-clause-programs : goal.returns-clause-programs
returns-clause-programs g c = programs_skip g.L.LineOut.puts
