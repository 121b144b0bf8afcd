use Rattle.flow_world_refinement.proofs.Order.Next.{same_next}
use Rattle.flow_world_refinement.proofs.Order.Started.{start_shown}
use Rattle.flow_world_refinement.proofs.laws.order.next_events_match.Goals as goal

pub returns-clause-start : goal.returns-clause-start
returns-clause-start g c = start_shown g.R.Resting.rests

pub returns-clause-next : goal.returns-clause-next
returns-clause-next g c = same_next g.R.Resting.rests
