use Rattle.flow_meaning.specs.Source.{source}
use Rattle.flow_meaning.specs.Class.{classes}
use Rattle.flow_meaning.proofs.MoreStep.{stopped_first}
use Rattle.flow_meaning.proofs.MoreActors.{source_thrifty, classes_thrifty}
use Rattle.flow_meaning.proofs.laws.stopped_first.Goals as goal

pub returns-clause-thrifty : goal.returns-clause-thrifty
returns-clause-thrifty g c = stopped_first g.K.TwoKinds.first g.K.TwoKinds.host

pub returns-clause-source : goal.returns-clause-source
returns-clause-source g c = λ p. stopped_first (source p) g.K.TwoKinds.host (source_thrifty p)

pub returns-clause-classes : goal.returns-clause-classes
returns-clause-classes g c = λ r. stopped_first (classes r) g.K.TwoKinds.host (classes_thrifty r)
