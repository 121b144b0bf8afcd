use Rattle.flow_top.proofs.Missing.{missing_program as proved}
use Rattle.flow_top.proofs.laws.missing_program.Goals as goal

pub returns : goal.returns
returns c = proved
