use Rattle.flow_heap_refinement.proofs.Shown.{pushed_shown, popped_shown, no_tasks_shown, dropped_shown, values_shown}
use Rattle.flow_heap_refinement.proofs.showing.heap_represents_task_changes.Goals as goal

pub returns-clause-pushed : goal.returns-clause-pushed
returns-clause-pushed c = pushed_shown

pub returns-clause-popped : goal.returns-clause-popped
returns-clause-popped c = popped_shown

pub returns-clause-none : goal.returns-clause-none
returns-clause-none c = no_tasks_shown

pub returns-clause-references : goal.returns-clause-references
returns-clause-references c = dropped_shown

pub returns-clause-values : goal.returns-clause-values
returns-clause-values c = values_shown
