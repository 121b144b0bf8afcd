use Rattle.flow_burst_refinement.proofs.Invariants.Once.{sorted_stays}
use Rattle.flow_burst_refinement.proofs.Invariants.Stays.{step_stays, runs_stay, task_stays}
use Rattle.flow_burst_refinement.proofs.laws.invariants.staying.steps_keep_time_and_order.Goals as goal

pub returns-clause-step : goal.returns-clause-step
returns-clause-step c = step_stays

pub returns-clause-runs : goal.returns-clause-runs
returns-clause-runs c = runs_stay

pub returns-clause-task : goal.returns-clause-task
returns-clause-task c = task_stays

pub returns-clause-sorted : goal.returns-clause-sorted
returns-clause-sorted c = sorted_stays
