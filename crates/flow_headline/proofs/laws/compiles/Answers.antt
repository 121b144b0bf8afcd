use Rattle.flow_headline.proofs.Telling.{compiles, right_classes}
use Rattle.flow_headline.proofs.laws.compiles.Goals as goal

pub returns : goal.returns
returns c = compiles c.one_verdict.ensures (right_classes (record {
  valid = c.compiled_classes_are_valid.ensures;
  faithful = c.compiled_classes_carry_program.ensures;
  traces = c.compile_preserves_traces.ensures.traces;
  traces_back = c.compile_preserves_traces.ensures.traces_back;
  views = c.compile_preserves_traces.ensures.views;
  views_back = c.compile_preserves_traces.ensures.views_back;
}))
