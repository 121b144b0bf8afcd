use Rattle.flow_heap_refinement.proofs.Holding.{of_written, of_emptied, of_locals, of_all_locals, of_path}
use Rattle.flow_heap_refinement.proofs.steps.frame_work_changes_references.Goals as goal

pub returns-clause-written : goal.returns-clause-written
returns-clause-written c = λ m s j. of_written s j m

pub returns-clause-emptied : goal.returns-clause-emptied
returns-clause-emptied c = λ m s j. of_emptied s j m

pub returns-clause-locals : goal.returns-clause-locals
returns-clause-locals c = λ m s j. of_locals s j m

pub returns-clause-all : goal.returns-clause-all
returns-clause-all c = λ m s j. of_all_locals s j m

pub returns-clause-path : goal.returns-clause-path
returns-clause-path c = λ m s j. of_path s j m
