use Rattle.flow_heap_refinement.proofs.Alive.{result_alive, stream_alive, held_alive, stream_held_alive, mark_wanted, alive_shown, wanted_shown}
use Rattle.flow_heap_refinement.proofs.LossKeeps.{loss_alive, loss_wanted}
use Rattle.flow_heap_refinement.proofs.counting.losses_leave_cells_referenced.Goals as goal

pub returns-clause-alive : goal.returns-clause-alive
returns-clause-alive c = loss_alive

pub returns-clause-wanted : goal.returns-clause-wanted
returns-clause-wanted c = loss_wanted

pub returns-clause-made : goal.returns-clause-made
returns-clause-made c = result_alive

pub returns-clause-stream_made : goal.returns-clause-stream_made
returns-clause-stream_made c = stream_alive

pub returns-clause-held : goal.returns-clause-held
returns-clause-held c = held_alive

pub returns-clause-stream_held : goal.returns-clause-stream_held
returns-clause-stream_held c = stream_held_alive

pub returns-clause-marked : goal.returns-clause-marked
returns-clause-marked c = mark_wanted

pub returns-clause-referenced : goal.returns-clause-referenced
returns-clause-referenced c = alive_shown

pub returns-clause-awaited : goal.returns-clause-awaited
returns-clause-awaited c = wanted_shown
