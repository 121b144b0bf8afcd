use Rattle.flow_heap_refinement.proofs.Shown.{result_made, stream_made, cell_counted, stream_counted, cell_set, stream_sent, stream_ended, element_taken, cell_gone, stream_is_gone}
use Rattle.flow_heap_refinement.proofs.showing.heap_represents_cell_changes.Goals as goal

pub returns-clause-result : goal.returns-clause-result
returns-clause-result c = result_made

pub returns-clause-stream : goal.returns-clause-stream
returns-clause-stream c = stream_made

pub returns-clause-counted : goal.returns-clause-counted
returns-clause-counted c = cell_counted

pub returns-clause-stream_counted : goal.returns-clause-stream_counted
returns-clause-stream_counted c = stream_counted

pub returns-clause-set : goal.returns-clause-set
returns-clause-set c = cell_set

pub returns-clause-sent : goal.returns-clause-sent
returns-clause-sent c = stream_sent

pub returns-clause-ended : goal.returns-clause-ended
returns-clause-ended c = stream_ended

pub returns-clause-taken : goal.returns-clause-taken
returns-clause-taken c = element_taken

pub returns-clause-gone : goal.returns-clause-gone
returns-clause-gone c = cell_gone

pub returns-clause-stream_gone : goal.returns-clause-stream_gone
returns-clause-stream_gone c = stream_is_gone
