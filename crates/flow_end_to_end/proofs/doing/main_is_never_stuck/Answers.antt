use Rattle.flow_end_to_end.proofs.Mains.{main_well}
use Rattle.flow_end_to_end.proofs.doing.main_is_never_stuck.Goals as goal

pub returns : goal.returns
returns c = main_well
