use Rattle.flow_tree.specs.DeclView.{program_of}
use Rattle.flow_lower.specs.Compiled.{compiled}
use Rattle.flow_compile_laws.proofs.Traces.{are_carried}
use Rattle.flow_compile_laws.proofs.laws.traces.compile_preserves_traces.Goals as goal

pub returns-clause-traces : goal.returns-clause-traces
returns-clause-traces c = λ text p w lines h.
    c.classes_simulate_program.ensures.traces (program_of p) (compiled (program_of p)) w lines (are_carried p (c.compiled_classes_carry_program.ensures text p h))

pub returns-clause-traces_back : goal.returns-clause-traces_back
returns-clause-traces_back c = λ text p w lines h.
    c.classes_simulate_program.ensures.traces_back (program_of p) (compiled (program_of p)) w lines (are_carried p (c.compiled_classes_carry_program.ensures text p h))

pub returns-clause-views : goal.returns-clause-views
returns-clause-views c = λ text p w lines sights h.
    c.classes_simulate_program.ensures.views (program_of p) (compiled (program_of p)) w lines sights (are_carried p (c.compiled_classes_carry_program.ensures text p h))

pub returns-clause-views_back : goal.returns-clause-views_back
returns-clause-views_back c = λ text p w lines sights h.
    c.classes_simulate_program.ensures.views_back (program_of p) (compiled (program_of p)) w lines sights (are_carried p (c.compiled_classes_carry_program.ensures text p h))
