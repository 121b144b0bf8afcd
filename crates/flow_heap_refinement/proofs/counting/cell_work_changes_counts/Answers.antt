use Rattle.flow_heap_refinement.proofs.Keeping.{cell_keeps, stream_keeps, cell_held, stream_held, cell_released, stream_released, result_keeps, new_stream_keeps, cell_freed, stream_freed}
use Rattle.flow_heap_refinement.proofs.counting.cell_work_changes_counts.Goals as goal

pub returns-clause-cell : goal.returns-clause-cell
returns-clause-cell c = cell_keeps

pub returns-clause-stream : goal.returns-clause-stream
returns-clause-stream c = stream_keeps

pub returns-clause-held : goal.returns-clause-held
returns-clause-held c = cell_held

pub returns-clause-stream_held : goal.returns-clause-stream_held
returns-clause-stream_held c = stream_held

pub returns-clause-released : goal.returns-clause-released
returns-clause-released c = cell_released

pub returns-clause-stream_released : goal.returns-clause-stream_released
returns-clause-stream_released c = stream_released

pub returns-clause-result : goal.returns-clause-result
returns-clause-result c = result_keeps

pub returns-clause-new_stream : goal.returns-clause-new_stream
returns-clause-new_stream c = new_stream_keeps

pub returns-clause-freed : goal.returns-clause-freed
returns-clause-freed c = cell_freed

pub returns-clause-stream_freed : goal.returns-clause-stream_freed
returns-clause-stream_freed c = stream_freed
