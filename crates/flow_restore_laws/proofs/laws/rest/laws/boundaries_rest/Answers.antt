use Rattle.flow_restore_laws.proofs.Rest.Worlds.{classes_rest, programs_rest}
use Rattle.flow_restore_laws.proofs.laws.rest.laws.boundaries_rest.Goals as goal

pub returns-clause-classes : goal.returns-clause-classes
returns-clause-classes g c = classes_rest g.L.LineOut.puts

pub returns-clause-programs : goal.returns-clause-programs
returns-clause-programs g c = programs_rest g.L.LineOut.puts
