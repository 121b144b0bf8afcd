use Rattle.flow_compile_laws.proofs.Simulation.Law.{traces_of_text, traces_of_classes, sights_of_text, sights_of_classes}
use Rattle.flow_compile_laws.proofs.laws.simulation.classes_simulate_program.Goals as goal

pub returns-clause-traces : goal.returns-clause-traces
returns-clause-traces c = traces_of_text

pub returns-clause-traces_back : goal.returns-clause-traces_back
returns-clause-traces_back c = traces_of_classes

pub returns-clause-views : goal.returns-clause-views
returns-clause-views c = sights_of_text

pub returns-clause-views_back : goal.returns-clause-views_back
returns-clause-views_back c = sights_of_classes
