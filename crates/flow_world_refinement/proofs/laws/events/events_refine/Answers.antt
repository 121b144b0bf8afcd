use Rattle.flow_world_refinement.proofs.Events.Whole.{happening, spent_happening}
use Rattle.flow_world_refinement.proofs.laws.events.events_refine.Goals as goal

pub returns-clause-runs : goal.returns-clause-runs
returns-clause-runs g c = λ r. happening g.L.LineOut.puts r

pub returns-clause-spent : goal.returns-clause-spent
returns-clause-spent g c = λ r. spent_happening g.L.LineOut.puts r
