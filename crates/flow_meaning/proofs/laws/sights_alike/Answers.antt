use Rattle.flow_meaning.proofs.Sights.{sights_follow, sights_return}
use Rattle.flow_meaning.proofs.laws.sights_alike.Goals as goal

pub returns-clause-follow : goal.returns-clause-follow
returns-clause-follow g c = λ sim. sights_follow g.K.TwoKinds.first g.K.TwoKinds.second g.K.TwoKinds.related sim

pub returns-clause-back : goal.returns-clause-back
returns-clause-back g c = λ sim. sights_return g.K.TwoKinds.first g.K.TwoKinds.second g.K.TwoKinds.related sim
