use Rattle.flow_typing_laws.proofs.Typing.Accepted.{accepted}
use Rattle.flow_typing_laws.proofs.laws.typing.accepted_programs_are_well_typed.Goals as goal

pub returns : goal.returns
returns c = accepted c.grammar_keeps_for_parts_simple.ensures
