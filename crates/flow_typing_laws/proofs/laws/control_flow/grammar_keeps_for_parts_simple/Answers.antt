use Rattle.flow_typing_laws.proofs.ControlFlow.SimpleParts.{program_parts}
use Rattle.flow_typing_laws.proofs.laws.control_flow.grammar_keeps_for_parts_simple.Goals as goal

pub returns : goal.returns
returns c = λ tokens program. program_parts tokens program
