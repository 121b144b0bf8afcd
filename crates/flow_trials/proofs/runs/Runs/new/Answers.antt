use Rattle.flow_trials.proofs.Trying.{ready_by}
use Rattle.flow_trials.proofs.runs.Runs.new.Goals as goal

pub returns-clause-ready : goal.returns-clause-ready
returns-clause-ready g c = λ text sound light has. ready_by text _ _ _ _ sound light has c.in_ok-world.ensures.starts
