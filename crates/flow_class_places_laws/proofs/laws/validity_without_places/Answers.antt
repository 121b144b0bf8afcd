use Rattle.flow_class_places_laws.proofs.Validity.{sound_over, valid_over, breach_over, heads_over}
use Rattle.flow_class_places_laws.proofs.laws.validity_without_places.Goals as goal

pub returns-clause-valid : goal.returns-clause-valid
returns-clause-valid c = valid_over

pub returns-clause-breaks : goal.returns-clause-breaks
returns-clause-breaks c = breach_over

pub returns-clause-class : goal.returns-clause-class
returns-clause-class c = sound_over

pub returns-clause-heads : goal.returns-clause-heads
returns-clause-heads c = heads_over
