use Rattle.flow_typing_laws.proofs.ControlFlow.Ending.{ends_by_walk}
use Rattle.flow_typing_laws.proofs.laws.control_flow.closing_rule_agrees_with_walks.Goals as goal

pub returns : goal.returns
returns c = λ b. ends_by_walk b
