use Rattle.flow_steps.proofs.Acts.{first_printed}
use Rattle.flow_steps.proofs.process.Process.print.Goals as goal

pub returns-clause-done : goal.returns-clause-done
returns-clause-done c = first_printed _ _ _ _ _ _ _ c.in-Some.ensures c.in_ok-line.ensures.done c.in_ok-run_on.ensures.done c.tell.ensures
