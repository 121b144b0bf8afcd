use Rattle.flow_end_to_end.proofs.Shown.{program_shown, program_in_part}
use Rattle.flow_end_to_end.proofs.laws.program_runs_are_exact.Goals as goal

pub returns-clause-whole : goal.returns-clause-whole
returns-clause-whole g c = program_shown g.L.LineOut.puts

pub returns-clause-part : goal.returns-clause-part
returns-clause-part g c = program_in_part g.L.LineOut.puts
