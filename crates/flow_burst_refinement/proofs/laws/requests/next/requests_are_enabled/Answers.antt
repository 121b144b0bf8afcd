use Rattle.flow_burst_refinement.proofs.Requests.Allowed.{ask_allowed}
use Rattle.flow_burst_refinement.proofs.laws.requests.next.requests_are_enabled.Goals as goal

pub returns : goal.returns
returns c = ask_allowed
