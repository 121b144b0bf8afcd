use Rattle.flow_trace.proofs.Texts.{one_spelling_of_texts}
use Rattle.flow_trace.proofs.unquote.one_spelling_of_texts.Goals as goal

pub returns : goal.returns
returns c = one_spelling_of_texts
