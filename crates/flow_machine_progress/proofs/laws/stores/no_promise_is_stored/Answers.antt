use Rattle.flow_machine_progress.proofs.Stores.Tasks.{task_stores, brought_stores, main_stores}
use Rattle.flow_machine_progress.proofs.laws.stores.no_promise_is_stored.Goals as goal

pub returns-clause-tasks : goal.returns-clause-tasks
returns-clause-tasks c = task_stores

pub returns-clause-brought : goal.returns-clause-brought
returns-clause-brought c = brought_stores

pub returns-clause-main : goal.returns-clause-main
returns-clause-main c = main_stores
