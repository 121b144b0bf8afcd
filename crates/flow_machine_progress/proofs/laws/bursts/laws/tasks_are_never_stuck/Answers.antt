use Rattle.flow_machine_progress.proofs.Bursts.Tasks.{task_sure}
use Rattle.flow_machine_progress.proofs.Bursts.Bursts.{all_tasks_sure}
use Rattle.flow_machine_progress.proofs.laws.bursts.laws.tasks_are_never_stuck.Goals as goal

pub returns-clause-task : goal.returns-clause-task
returns-clause-task g c = task_sure

pub returns-clause-tasks : goal.returns-clause-tasks
returns-clause-tasks g c = all_tasks_sure g.H.Host.serves g.H.Host.shows g.H.Host.wrote g.H.Host.broke
