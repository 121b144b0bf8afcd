use Rattle.flow_heap_refinement.proofs.Further.{wait_left, actor_cancelled, loss_done}
use Rattle.flow_heap_refinement.proofs.counting.losses_are_carried_out.Goals as goal

pub returns-clause-left : goal.returns-clause-left
returns-clause-left c = wait_left

pub returns-clause-cancelled : goal.returns-clause-cancelled
returns-clause-cancelled c = actor_cancelled

pub returns-clause-lost : goal.returns-clause-lost
returns-clause-lost c = loss_done
