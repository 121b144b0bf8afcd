use Rattle.flow_machine_progress.proofs.Bursts.Plain.{plain_well}
use Rattle.flow_machine_progress.proofs.laws.bursts.simple_tasks.simple_tasks_are_never_stuck.Goals as goal

pub returns : goal.returns
returns c = plain_well
