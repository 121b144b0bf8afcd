use Rattle.flow_top.specs.Steps.{is_world}
use Rattle.flow_top.proofs.judge.world_of.Goals as goal

pub returns-in-Ok-clause-answered : goal.returns-in-Ok-clause-answered
returns-in-Ok-clause-answered c = is_world c.in-Ok.world c.in-Ok.ensures.answers
