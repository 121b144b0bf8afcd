use Rattle.flow_meaning.proofs.Lift.{bursts_follow, bursts_return}
use Rattle.flow_meaning.proofs.laws.bursts_alike.Goals as goal

pub returns-clause-follow : goal.returns-clause-follow
returns-clause-follow g c = λ sim. bursts_follow g.K.TwoKinds.first g.K.TwoKinds.second g.K.TwoKinds.host g.K.TwoKinds.related sim

pub returns-clause-back : goal.returns-clause-back
returns-clause-back g c = λ sim. bursts_return g.K.TwoKinds.first g.K.TwoKinds.second g.K.TwoKinds.host g.K.TwoKinds.related sim
