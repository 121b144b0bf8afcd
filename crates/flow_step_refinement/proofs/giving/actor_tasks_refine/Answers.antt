use Rattle.flow_step_refinement.proofs.Gives.{run_begins, run_at_wait, give_goes, give_throws, store_done, keep_goes}
use Rattle.flow_step_refinement.proofs.giving.actor_tasks_refine.Goals as goal

pub returns-clause-runs : goal.returns-clause-runs
returns-clause-runs c = run_begins

pub returns-clause-waits : goal.returns-clause-waits
returns-clause-waits c = run_at_wait

pub returns-clause-gives : goal.returns-clause-gives
returns-clause-gives c = give_goes

pub returns-clause-throws : goal.returns-clause-throws
returns-clause-throws c = give_throws

pub returns-clause-stores : goal.returns-clause-stores
returns-clause-stores c = store_done

pub returns-clause-keeps : goal.returns-clause-keeps
returns-clause-keeps c = keep_goes
