use Rattle.flow_simdisk.proofs.Naming.{stand_in_order}
use Rattle.flow_simdisk.proofs.laws.restored.Goals as goal

pub returns : goal.returns
returns c = stand_in_order
