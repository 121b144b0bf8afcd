use Rattle.flow_meaning.specs.Source.{source}
use Rattle.flow_meaning.specs.Class.{classes}
use Rattle.flow_draw_laws.proofs.Answered.{same_run, same_next}
use Rattle.flow_draw_laws.proofs.laws.programs_are_functions_of_answers.Goals as goal

pub returns-clause-source_same : goal.returns-clause-source_same
returns-clause-source_same c = λ p. same_run (source p)

pub returns-clause-source_next : goal.returns-clause-source_next
returns-clause-source_next c = λ p. same_next (source p)

pub returns-clause-classes_same : goal.returns-clause-classes_same
returns-clause-classes_same c = λ p. same_run (classes p)

pub returns-clause-classes_next : goal.returns-clause-classes_next
returns-clause-classes_next c = λ p. same_next (classes p)
