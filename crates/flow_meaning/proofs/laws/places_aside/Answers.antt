use Rattle.flow_meaning.proofs.BareEval.{whole_bare}
use Rattle.flow_meaning.proofs.PlacesAside.{source_aside, class_aside}
use Rattle.flow_meaning.proofs.laws.places_aside.Goals as goal

pub returns-clause-expressions : goal.returns-clause-expressions
returns-clause-expressions c = whole_bare

pub returns-clause-programs : goal.returns-clause-programs
returns-clause-programs c = source_aside

pub returns-clause-classes : goal.returns-clause-classes
returns-clause-classes c = class_aside
