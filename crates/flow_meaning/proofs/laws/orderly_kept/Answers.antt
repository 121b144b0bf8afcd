use Rattle.flow_meaning.proofs.InOrder.{keeps_order}
use Rattle.flow_meaning.proofs.RestRuns.{runs_rest, traces_rest}
use Rattle.flow_meaning.proofs.laws.orderly_kept.Goals as goal

pub returns-clause-bursts : goal.returns-clause-bursts
returns-clause-bursts g c = keeps_order g.K.TwoKinds.first g.K.TwoKinds.host

pub returns-clause-runs : goal.returns-clause-runs
returns-clause-runs g c = runs_rest g.K.TwoKinds.first

pub returns-clause-traces : goal.returns-clause-traces
returns-clause-traces g c = traces_rest g.K.TwoKinds.first
