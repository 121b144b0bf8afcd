use Rattle.flow_end_to_end.proofs.Cut.Cuts.{classes_cut, classes_cut_in_part, program_cut, program_cut_in_part}
use Rattle.flow_end_to_end.proofs.laws.watched_runs_are_cut.Goals as goal

pub returns-clause-classes : goal.returns-clause-classes
returns-clause-classes g c = classes_cut g.L.LineOut.puts

pub returns-clause-classes_in_part : goal.returns-clause-classes_in_part
returns-clause-classes_in_part g c = classes_cut_in_part g.L.LineOut.puts

pub returns-clause-programs : goal.returns-clause-programs
returns-clause-programs g c = program_cut g.L.LineOut.puts

pub returns-clause-programs_in_part : goal.returns-clause-programs_in_part
returns-clause-programs_in_part g c = program_cut_in_part g.L.LineOut.puts
