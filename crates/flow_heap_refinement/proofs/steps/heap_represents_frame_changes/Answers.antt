use Rattle.flow_heap_refinement.proofs.Standing.{place_read, place_written, goes_on, operand_kept, suspends, is_over}
use Rattle.flow_heap_refinement.proofs.steps.heap_represents_frame_changes.Goals as goal

pub returns-clause-read : goal.returns-clause-read
returns-clause-read c = place_read

pub returns-clause-written : goal.returns-clause-written
returns-clause-written c = place_written

pub returns-clause-goes : goal.returns-clause-goes
returns-clause-goes c = goes_on

pub returns-clause-kept : goal.returns-clause-kept
returns-clause-kept c = operand_kept

pub returns-clause-suspends : goal.returns-clause-suspends
returns-clause-suspends c = suspends

pub returns-clause-over : goal.returns-clause-over
returns-clause-over c = is_over
