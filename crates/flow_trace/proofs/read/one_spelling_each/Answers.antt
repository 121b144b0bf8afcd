use Rattle.flow_trace.proofs.Lines.{one_spelling, one_line}
use Rattle.flow_trace.proofs.read.one_spelling_each.Goals as goal

pub returns-clause-spelling : goal.returns-clause-spelling
returns-clause-spelling c = one_spelling

pub returns-clause-line : goal.returns-clause-line
returns-clause-line c = one_line
