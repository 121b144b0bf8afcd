use Rattle.flow_step_refinement.proofs.Resuming.Tasks.{task_keeps, aside_keeps, gives_keeps, main_keeps}
use Rattle.flow_step_refinement.proofs.Resuming.Next.{at_next_step}
use Rattle.flow_step_refinement.proofs.Resuming.Branches.{branched}
use Rattle.flow_step_refinement.proofs.laws.resuming.running_actors_have_no_stale_wait.Goals as goal

pub returns-clause-tasks : goal.returns-clause-tasks
returns-clause-tasks c = task_keeps

pub returns-clause-beside : goal.returns-clause-beside
returns-clause-beside c = aside_keeps

pub returns-clause-gives : goal.returns-clause-gives
returns-clause-gives c = gives_keeps

pub returns-clause-main : goal.returns-clause-main
returns-clause-main c = main_keeps

pub returns-clause-next : goal.returns-clause-next
returns-clause-next c = at_next_step

pub returns-clause-branched : goal.returns-clause-branched
returns-clause-branched c = branched
