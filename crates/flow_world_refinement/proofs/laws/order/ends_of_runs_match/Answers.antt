use Rattle.flow_world_refinement.proofs.Order.Next.{same_end}
use Rattle.flow_world_refinement.proofs.laws.order.ends_of_runs_match.Goals as goal

pub returns : goal.returns
returns g c = same_end g.R.Resting.rests g.L.LineOut.puts
