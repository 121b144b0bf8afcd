use Rattle.flow_top.proofs.Missing.{missing_world as proved}
use Rattle.flow_top.proofs.laws.missing_world.Goals as goal

pub returns : goal.returns
returns c = proved
