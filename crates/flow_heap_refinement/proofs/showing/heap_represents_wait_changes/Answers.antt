use Rattle.flow_heap_refinement.proofs.Shown.{cell_awaited, stream_awaited}
use Rattle.flow_heap_refinement.proofs.Left.{withdrawn_shown, cancelled_shown}
use Rattle.flow_heap_refinement.proofs.showing.heap_represents_wait_changes.Goals as goal

pub returns-clause-awaited : goal.returns-clause-awaited
returns-clause-awaited c = cell_awaited

pub returns-clause-stream_awaited : goal.returns-clause-stream_awaited
returns-clause-stream_awaited c = stream_awaited

pub returns-clause-withdrawn : goal.returns-clause-withdrawn
returns-clause-withdrawn c = withdrawn_shown

pub returns-clause-cancelled : goal.returns-clause-cancelled
returns-clause-cancelled c = cancelled_shown
