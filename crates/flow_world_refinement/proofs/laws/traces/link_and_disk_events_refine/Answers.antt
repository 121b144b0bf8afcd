use Rattle.flow_world_refinement.proofs.Traces.Quietly.{cut_follows, failure_follows, heal_follows}
use Rattle.flow_world_refinement.proofs.laws.traces.link_and_disk_events_refine.Goals as goal

pub returns-clause-cut : goal.returns-clause-cut
returns-clause-cut g c = λ r. cut_follows g.B.Boundary.rests g.B.Boundary.keeps g.B.Boundary.is_code r g.L.LineOut.puts

pub returns-clause-heal : goal.returns-clause-heal
returns-clause-heal g c = λ r. heal_follows g.B.Boundary.rests g.B.Boundary.keeps g.B.Boundary.is_code r g.L.LineOut.puts

pub returns-clause-failure : goal.returns-clause-failure
returns-clause-failure g c = λ r. failure_follows g.B.Boundary.rests g.B.Boundary.keeps g.B.Boundary.is_code r g.L.LineOut.puts
