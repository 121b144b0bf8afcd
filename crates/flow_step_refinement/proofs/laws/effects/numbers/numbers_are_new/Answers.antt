use Rattle.flow_step_refinement.proofs.Effects.Fresh.{port_free, actor_free}
use Rattle.flow_step_refinement.proofs.laws.effects.numbers.numbers_are_new.Goals as goal

pub returns-clause-port : goal.returns-clause-port
returns-clause-port c = port_free

pub returns-clause-actor : goal.returns-clause-actor
returns-clause-actor c = actor_free
