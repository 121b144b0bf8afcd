use Rattle.flow_operation_refinement.proofs.Working.{turn_taken, task_done, ref_held, refs_held, refs_dropped_shown, cell_filled, cell_broken}
use Rattle.flow_operation_refinement.proofs.Giving.{result_given}
use Rattle.flow_operation_refinement.proofs.Cancelling.{actor_departed, actor_stopped, owner_stopped}
use Rattle.flow_operation_refinement.proofs.Losing.{ref_lost}
use Rattle.flow_operation_refinement.proofs.work.state_changes_refine.Goals as goal

pub returns-clause-turn : goal.returns-clause-turn
returns-clause-turn c = turn_taken

pub returns-clause-task : goal.returns-clause-task
returns-clause-task c = task_done

pub returns-clause-held : goal.returns-clause-held
returns-clause-held c = ref_held

pub returns-clause-all : goal.returns-clause-all
returns-clause-all c = refs_held

pub returns-clause-dropped : goal.returns-clause-dropped
returns-clause-dropped c = refs_dropped_shown

pub returns-clause-filled : goal.returns-clause-filled
returns-clause-filled c = cell_filled

pub returns-clause-broken : goal.returns-clause-broken
returns-clause-broken c = cell_broken

pub returns-clause-given : goal.returns-clause-given
returns-clause-given c = result_given

pub returns-clause-departed : goal.returns-clause-departed
returns-clause-departed c = actor_departed

pub returns-clause-stopped : goal.returns-clause-stopped
returns-clause-stopped c = actor_stopped

pub returns-clause-owner : goal.returns-clause-owner
returns-clause-owner c = owner_stopped

pub returns-clause-lost : goal.returns-clause-lost
returns-clause-lost c = ref_lost
