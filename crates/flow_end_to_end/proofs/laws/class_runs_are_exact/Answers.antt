use Rattle.flow_end_to_end.proofs.Shown.{classes_shown}
use Rattle.flow_end_to_end.proofs.laws.class_runs_are_exact.Goals as goal

pub returns : goal.returns
returns g c = classes_shown g.L.LineOut.puts
