use Rattle.flow_burst_refinement.proofs.Requests.Changing.{step_ports}
use Rattle.flow_burst_refinement.proofs.Requests.Remaining.{ports_remain}
use Rattle.flow_burst_refinement.proofs.laws.requests.ports.ports_refine.Goals as goal

pub returns-clause-step : goal.returns-clause-step
returns-clause-step c = step_ports

pub returns-clause-left : goal.returns-clause-left
returns-clause-left c = ports_remain
