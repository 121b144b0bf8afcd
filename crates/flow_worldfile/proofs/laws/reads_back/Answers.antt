use Rattle.flow_worldfile.proofs.ReadsBack.{reads_back}
use Rattle.flow_worldfile.proofs.laws.reads_back.Goals as goal

pub returns : goal.returns
returns c = reads_back
