use Rattle.flow_operation_refinement.proofs.Parting.{actor_withdrawn, frame_told, left_for_task}
use Rattle.flow_operation_refinement.proofs.Takings.{content_taken, branch_follows}
use Rattle.flow_operation_refinement.proofs.taking.waits_refine.Goals as goal

pub returns-clause-withdrawn : goal.returns-clause-withdrawn
returns-clause-withdrawn c = actor_withdrawn

pub returns-clause-told : goal.returns-clause-told
returns-clause-told c = frame_told

pub returns-clause-left : goal.returns-clause-left
returns-clause-left c = left_for_task

pub returns-clause-taken : goal.returns-clause-taken
returns-clause-taken c = content_taken

pub returns-clause-branch : goal.returns-clause-branch
returns-clause-branch c = branch_follows
