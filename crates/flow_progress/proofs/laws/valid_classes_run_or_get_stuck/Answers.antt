use Rattle.flow_progress.proofs.Existing.{runs_or_strays, one_trace}
use Rattle.flow_progress.proofs.Valid.{leads_on}
use Rattle.flow_progress.proofs.laws.valid_classes_run_or_get_stuck.Goals as goal

pub returns-clause-runs : goal.returns-clause-runs
returns-clause-runs c = λ r v. runs_or_strays r (leads_on r v)

pub returns-clause-once : goal.returns-clause-once
returns-clause-once c = λ r v. one_trace r (leads_on r v)
