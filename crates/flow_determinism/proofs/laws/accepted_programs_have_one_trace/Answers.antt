use Rattle.flow_determinism.specs.Laws.{classes_of}
use Rattle.flow_determinism.proofs.laws.accepted_programs_have_one_trace.Goals as goal

pub returns-clause-classes : goal.returns-clause-classes
returns-clause-classes c = λ text p w h range.
    c.valid_classes_have_one_trace.ensures.runs (classes_of p) (c.compiled_classes_are_well_formed.ensures text p h) w range

pub returns-clause-sources : goal.returns-clause-sources
returns-clause-sources c = λ text p w h range.
    let one = c.valid_classes_have_one_trace.ensures.runs (classes_of p) (c.compiled_classes_are_well_formed.ensures text p h) w range in
    record {
      lines = one.lines;
      is = c.compile_preserves_traces.ensures.traces_back text p w one.lines h.typed one.is;
      only = λ more t. one.only more (c.compile_preserves_traces.ensures.traces text p w more h.typed t);
    }
