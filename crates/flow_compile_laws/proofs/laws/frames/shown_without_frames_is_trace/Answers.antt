use Rattle.flow_compile_laws.proofs.Frames.Traces.{trace_shown, class_trace_shown}
use Rattle.flow_compile_laws.proofs.laws.frames.shown_without_frames_is_trace.Goals as goal

pub returns-clause-source : goal.returns-clause-source
returns-clause-source c = trace_shown

pub returns-clause-classes : goal.returns-clause-classes
returns-clause-classes c = class_trace_shown
