use Rattle.flow_invariants.proofs.Fitting.Runs.{never_gets_stuck, run_exists}
use Rattle.flow_invariants.proofs.laws.fitting.valid_classes_have_one_trace.Goals as goal

pub returns-clause-gets_stuck : goal.returns-clause-gets_stuck
returns-clause-gets_stuck c = never_gets_stuck

pub returns-clause-runs : goal.returns-clause-runs
returns-clause-runs c = run_exists
