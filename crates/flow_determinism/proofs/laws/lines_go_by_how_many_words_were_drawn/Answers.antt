use Rattle.flow_determinism.proofs.Asked.{lines_by_drawn}
use Rattle.flow_determinism.proofs.laws.lines_go_by_how_many_words_were_drawn.Goals as goal

pub returns : goal.returns
returns g c = lines_by_drawn g.K.TwoKinds.first
