use Rattle.flow_burst_refinement.proofs.Enabled.Tasks.{any_allowed, any_goes}
use Rattle.flow_burst_refinement.proofs.laws.enabled.tasking.all_tasks_are_enabled.Goals as goal

pub returns-clause-allowed : goal.returns-clause-allowed
returns-clause-allowed c = any_allowed

pub returns-clause-goes : goal.returns-clause-goes
returns-clause-goes c = any_goes
