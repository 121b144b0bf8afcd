use Rattle.flow_tree.specs.DeclView.{program_of}
use Rattle.flow_meaning.specs.Class.{classes}
use Rattle.flow_meaning.specs.Source.{source}
use Rattle.flow_meaning.specs.Views.{actor_spot, frame_spot}
use Rattle.flow_determinism.proofs.Shown.{one_shown}
use Rattle.flow_determinism.proofs.laws.one_list_of_lines_is_shown.Goals as goal

pub returns-clause-classes : goal.returns-clause-classes
returns-clause-classes c = λ r f w valid range.
    let one = c.valid_classes_have_one_trace.ensures.runs r valid w range in one_shown (classes r) frame_spot f w one.is.0 one.lines one.is.1

pub returns-clause-sources : goal.returns-clause-sources
returns-clause-sources c = λ text p f w h range.
    let one = c.accepted_programs_have_one_trace.ensures.sources text p w h range in one_shown (source (program_of p)) actor_spot f w one.is.0 one.lines one.is.1
