use Rattle.flow_world_refinement.proofs.Traces.Whole.{trace_follows, beginning_follows}
use Rattle.flow_world_refinement.proofs.laws.traces.traces_refine_if_events_do.Goals as goal

pub returns-clause-whole : goal.returns-clause-whole
returns-clause-whole g c = trace_follows g.B.Boundary.rests g.B.Boundary.keeps g.B.Boundary.is_code g.L.LineOut.puts

pub returns-clause-part : goal.returns-clause-part
returns-clause-part g c = beginning_follows g.B.Boundary.rests g.B.Boundary.keeps g.B.Boundary.is_code g.L.LineOut.puts
