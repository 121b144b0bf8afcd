use Rattle.flow_operation_refinement.proofs.Brought.{content_follows, request_follows, main_follows, sending_follows}
use Rattle.flow_operation_refinement.proofs.Making.{cell_made, cell_given, request_given, stream_given}
use Rattle.flow_operation_refinement.proofs.delivering.deliveries_refine.Goals as goal

pub returns-clause-content : goal.returns-clause-content
returns-clause-content c = content_follows

pub returns-clause-request : goal.returns-clause-request
returns-clause-request c = request_follows

pub returns-clause-main : goal.returns-clause-main
returns-clause-main c = main_follows

pub returns-clause-cell : goal.returns-clause-cell
returns-clause-cell c = cell_made

pub returns-clause-given : goal.returns-clause-given
returns-clause-given c = cell_given

pub returns-clause-open_request : goal.returns-clause-open_request
returns-clause-open_request c = request_given

pub returns-clause-stream : goal.returns-clause-stream
returns-clause-stream c = stream_given

pub returns-clause-sent : goal.returns-clause-sent
returns-clause-sent c = sending_follows
