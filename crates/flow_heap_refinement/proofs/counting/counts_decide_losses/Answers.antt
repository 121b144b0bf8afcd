use Rattle.flow_heap_refinement.proofs.Loss.{may_drop_it, loss_follows}
use Rattle.flow_heap_refinement.proofs.counting.counts_decide_losses.Goals as goal

pub returns-clause-may : goal.returns-clause-may
returns-clause-may c = may_drop_it

pub returns-clause-follows : goal.returns-clause-follows
returns-clause-follows c = loss_follows
