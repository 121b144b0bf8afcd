use Rattle.flow_machine_progress.proofs.Bursts.Brought.{element_well}
use Rattle.flow_machine_progress.proofs.laws.bursts.delivering.elements_are_never_stuck.Goals as goal

pub returns : goal.returns
returns c = element_well
