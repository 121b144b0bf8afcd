use Rattle.flow_end_to_end.proofs.Cut.Cuts.{classes_fail, program_fails}
use Rattle.flow_end_to_end.proofs.laws.failed_runs_put_first_parts.Goals as goal

pub returns-clause-classes : goal.returns-clause-classes
returns-clause-classes g c = classes_fail g.L.LineOut.puts

pub returns-clause-programs : goal.returns-clause-programs
returns-clause-programs g c = program_fails g.L.LineOut.puts
