use Rattle.flow_burst_refinement.proofs.Invariants.Tasks.{task_allowed, plain_steps}
use Rattle.flow_burst_refinement.proofs.laws.invariants.allowed.simple_tasks_are_enabled.Goals as goal

pub returns-clause-allowed : goal.returns-clause-allowed
returns-clause-allowed c = task_allowed

pub returns-clause-steps : goal.returns-clause-steps
returns-clause-steps c = plain_steps
