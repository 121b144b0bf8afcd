use Rattle.flow_meaning.specs.Source.{source}
use Rattle.flow_meaning.specs.Class.{classes}
use Rattle.flow_meaning.proofs.Cancelling.{cancelled_throws, throw_tells}
use Rattle.flow_meaning.proofs.laws.cancelling.cancelled_actors_throw_at_waits.Goals as goal

pub returns-clause-programs : goal.returns-clause-programs
returns-clause-programs c = λ program p. cancelled_throws (source program) p

pub returns-clause-classes : goal.returns-clause-classes
returns-clause-classes c = λ r p. cancelled_throws (classes r) p

pub returns-clause-told : goal.returns-clause-told
returns-clause-told c = λ program p. throw_tells (source program) p

pub returns-clause-told_by_classes : goal.returns-clause-told_by_classes
returns-clause-told_by_classes c = λ r p. throw_tells (classes r) p
