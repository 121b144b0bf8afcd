use Rattle.flow_heap_refinement.proofs.Referring.{of_left, of_entry, of_frame, of_new_actor, of_closed, of_main, of_port, of_port_gone, of_request, of_answered}
use Rattle.flow_heap_refinement.proofs.counting.actor_work_changes_references.Goals as goal

pub returns-clause-left : goal.returns-clause-left
returns-clause-left c = of_left

pub returns-clause-entry : goal.returns-clause-entry
returns-clause-entry c = of_entry

pub returns-clause-frame : goal.returns-clause-frame
returns-clause-frame c = of_frame

pub returns-clause-new : goal.returns-clause-new
returns-clause-new c = of_new_actor

pub returns-clause-closed : goal.returns-clause-closed
returns-clause-closed c = of_closed

pub returns-clause-main : goal.returns-clause-main
returns-clause-main c = of_main

pub returns-clause-port : goal.returns-clause-port
returns-clause-port c = of_port

pub returns-clause-port_gone : goal.returns-clause-port_gone
returns-clause-port_gone c = of_port_gone

pub returns-clause-request : goal.returns-clause-request
returns-clause-request c = of_request

pub returns-clause-answered : goal.returns-clause-answered
returns-clause-answered c = of_answered
