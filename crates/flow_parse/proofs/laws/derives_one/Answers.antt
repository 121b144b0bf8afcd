use Rattle.flow_parse.proofs.OneProgram.{one_program}
use Rattle.flow_parse.proofs.laws.derives_one.Goals as goal

pub returns : goal.returns
returns c = one_program
