use Rattle.flow_burst_refinement.proofs.Enabled.Steps.{step_allowed, values_there, making_allowed}
use Rattle.flow_burst_refinement.proofs.laws.enabled.allowing.actor_steps_are_enabled.Goals as goal

pub returns-clause-step : goal.returns-clause-step
returns-clause-step c = step_allowed

pub returns-clause-values : goal.returns-clause-values
returns-clause-values c = values_there

pub returns-clause-making : goal.returns-clause-making
returns-clause-making c = making_allowed
