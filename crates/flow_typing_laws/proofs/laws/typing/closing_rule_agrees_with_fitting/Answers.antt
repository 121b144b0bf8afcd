use Rattle.flow_typing_laws.proofs.Typing.Bodies.{same_ends}
use Rattle.flow_typing_laws.proofs.laws.typing.closing_rule_agrees_with_fitting.Goals as goal

pub returns : goal.returns
returns c = same_ends
