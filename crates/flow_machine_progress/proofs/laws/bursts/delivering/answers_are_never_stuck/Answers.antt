use Rattle.flow_machine_progress.proofs.Bursts.Brought.{answer_well}
use Rattle.flow_machine_progress.proofs.laws.bursts.delivering.answers_are_never_stuck.Goals as goal

pub returns : goal.returns
returns c = answer_well
