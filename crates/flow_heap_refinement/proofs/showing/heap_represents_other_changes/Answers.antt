use Rattle.flow_heap_refinement.proofs.Beside.{main_shown, port_shown, port_gone, request_shown, request_closed, vanished_shown}
use Rattle.flow_heap_refinement.proofs.showing.heap_represents_other_changes.Goals as goal

pub returns-clause-main : goal.returns-clause-main
returns-clause-main c = main_shown

pub returns-clause-port : goal.returns-clause-port
returns-clause-port c = port_shown

pub returns-clause-port_gone : goal.returns-clause-port_gone
returns-clause-port_gone c = port_gone

pub returns-clause-request : goal.returns-clause-request
returns-clause-request c = request_shown

pub returns-clause-answered : goal.returns-clause-answered
returns-clause-answered c = request_closed

pub returns-clause-vanished : goal.returns-clause-vanished
returns-clause-vanished c = vanished_shown
