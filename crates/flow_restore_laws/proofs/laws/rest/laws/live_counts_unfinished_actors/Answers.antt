use Rattle.flow_restore_laws.proofs.Rest.Counted.{classes_count, programs_count}
use Rattle.flow_restore_laws.proofs.laws.rest.laws.live_counts_unfinished_actors.Goals as goal

pub returns-clause-classes : goal.returns-clause-classes
returns-clause-classes g c = classes_count g.L.LineOut.puts

pub returns-clause-programs : goal.returns-clause-programs
returns-clause-programs g c = programs_count g.L.LineOut.puts
