use Rattle.flow_worldfile.proofs.AnswerLemmas.{is_read}
use Rattle.flow_worldfile.proofs.reading.read_world.Goals as goal

pub returns-clause-read : goal.returns-clause-read
returns-clause-read c = is_read _ _ c.world_in.ensures
