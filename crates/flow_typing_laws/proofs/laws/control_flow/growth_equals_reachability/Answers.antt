use Rattle.flow_typing_laws.proofs.ControlFlow.Reaching.{grown_reached, reached_grown}
use Rattle.flow_typing_laws.proofs.laws.control_flow.growth_equals_reachability.Goals as goal

pub returns : goal.returns
returns g c = λ edges begins reached grown closed b. (grown_reached edges begins reached grown b, reached_grown edges begins reached grown closed b)
