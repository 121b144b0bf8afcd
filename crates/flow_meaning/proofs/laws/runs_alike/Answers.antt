use Rattle.flow_meaning.proofs.LiftRuns.{runs_follow, runs_return, traces_follow, traces_return}
use Rattle.flow_meaning.proofs.laws.runs_alike.Goals as goal

pub returns-clause-follow : goal.returns-clause-follow
returns-clause-follow g c = λ sim. runs_follow g.K.TwoKinds.first g.K.TwoKinds.second g.K.TwoKinds.related sim

pub returns-clause-back : goal.returns-clause-back
returns-clause-back g c = λ sim. runs_return g.K.TwoKinds.first g.K.TwoKinds.second g.K.TwoKinds.related sim

pub returns-clause-traces : goal.returns-clause-traces
returns-clause-traces g c = λ sim. traces_follow g.K.TwoKinds.first g.K.TwoKinds.second g.K.TwoKinds.related sim

pub returns-clause-traces_back : goal.returns-clause-traces_back
returns-clause-traces_back g c = λ sim. traces_return g.K.TwoKinds.first g.K.TwoKinds.second g.K.TwoKinds.related sim
