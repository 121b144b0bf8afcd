use Rattle.flow_class_places_laws.proofs.Showing.{classes_shown_aside, programs_shown_aside}
use Rattle.flow_class_places_laws.proofs.laws.shown_lines_without_places.Goals as goal

pub returns-clause-classes : goal.returns-clause-classes
returns-clause-classes c = classes_shown_aside

pub returns-clause-programs : goal.returns-clause-programs
returns-clause-programs c = programs_shown_aside
