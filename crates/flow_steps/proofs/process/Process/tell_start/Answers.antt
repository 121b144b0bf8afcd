use Rattle.flow_steps.proofs.Acts.{told_by}
use Rattle.flow_steps.proofs.process.Process.tell_start.Goals as goal

pub returns-in_ok-name-in-Some-clause-done : goal.returns-in_ok-name-in-Some-clause-done
returns-in_ok-name-in-Some-clause-done c = told_by _ _ _ _ _ _ _ c.in-Some.ensures c.in_ok-name-in-Some.ensures c.tell.ensures
