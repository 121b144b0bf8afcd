use Rattle.flow_typing_laws.proofs.ControlFlow.FirstBad.{first_by_walk}
use Rattle.flow_typing_laws.proofs.laws.control_flow.state_rule_agrees_with_walks.Goals as goal

pub returns : goal.returns
returns c = λ decls. first_by_walk decls
