use Rattle.flow_world_refinement.proofs.Traces.Codes.{code_stays}
use Rattle.flow_world_refinement.proofs.laws.traces.events_keep_code.Goals as goal

pub returns : goal.returns
returns g c = code_stays g.L.LineOut.puts
