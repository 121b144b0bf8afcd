use Rattle.flow_end_to_end.proofs.Cut.Cuts.{rests_cut, rests_cut_in_part, rests_fail}
use Rattle.flow_end_to_end.proofs.laws.rests_are_cut.Goals as goal

pub returns-clause-whole : goal.returns-clause-whole
returns-clause-whole g c = rests_cut g.L.LineOut.puts

pub returns-clause-in_part : goal.returns-clause-in_part
returns-clause-in_part g c = rests_cut_in_part g.L.LineOut.puts

pub returns-clause-fails : goal.returns-clause-fails
returns-clause-fails g c = rests_fail g.L.LineOut.puts
