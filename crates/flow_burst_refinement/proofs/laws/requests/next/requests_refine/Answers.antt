use Rattle.flow_burst_refinement.proofs.Requests.Answers.{ask_follows}
use Rattle.flow_burst_refinement.proofs.laws.requests.next.requests_refine.Goals as goal

pub returns : goal.returns
returns c = ask_follows
