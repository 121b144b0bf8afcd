use Rattle.flow_heap_refinement.proofs.Referring.{of_pushed, of_popped, of_dropped, of_values, of_new_cell, of_cell, of_gone, of_filled, of_taken, of_waiter}
use Rattle.flow_heap_refinement.proofs.counting.cell_work_changes_references.Goals as goal

pub returns-clause-pushed : goal.returns-clause-pushed
returns-clause-pushed c = of_pushed

pub returns-clause-popped : goal.returns-clause-popped
returns-clause-popped c = of_popped

pub returns-clause-dropped : goal.returns-clause-dropped
returns-clause-dropped c = of_dropped

pub returns-clause-values : goal.returns-clause-values
returns-clause-values c = of_values

pub returns-clause-made : goal.returns-clause-made
returns-clause-made c = of_new_cell

pub returns-clause-cell : goal.returns-clause-cell
returns-clause-cell c = of_cell

pub returns-clause-gone : goal.returns-clause-gone
returns-clause-gone c = of_gone

pub returns-clause-filled : goal.returns-clause-filled
returns-clause-filled c = of_filled

pub returns-clause-taken : goal.returns-clause-taken
returns-clause-taken c = of_taken

pub returns-clause-waiter : goal.returns-clause-waiter
returns-clause-waiter c = of_waiter
