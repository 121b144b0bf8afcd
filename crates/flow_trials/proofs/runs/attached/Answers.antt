use Rattle.flow_trials.proofs.Trying.{fails_as}
use Rattle.flow_trials.proofs.runs.attached.Goals as goal

pub returns-clause-fault : goal.returns-clause-fault
returns-clause-fault g c = fails_as _ c.attach.result c.attach.ensures.fault
