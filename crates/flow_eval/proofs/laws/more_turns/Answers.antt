use Rattle.flow_eval.proofs.MoreEval.{more_turns}
use Rattle.flow_eval.proofs.laws.more_turns.Goals as goal

pub returns : goal.returns
returns c = more_turns
