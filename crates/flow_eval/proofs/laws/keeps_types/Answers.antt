use Rattle.flow_eval.proofs.TypesKept.{keeps_types}
use Rattle.flow_eval.proofs.laws.keeps_types.Goals as goal

pub returns : goal.returns
returns c = keeps_types
