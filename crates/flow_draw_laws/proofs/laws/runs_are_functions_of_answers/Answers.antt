use Rattle.flow_draw_laws.proofs.Answered.{runs_ask, asked_runs, same_run, same_next}
use Rattle.flow_draw_laws.proofs.laws.runs_are_functions_of_answers.Goals as goal

pub returns-clause-asks : goal.returns-clause-asks
returns-clause-asks g c = runs_ask g.K.Actors.engine

pub returns-clause-runs : goal.returns-clause-runs
returns-clause-runs g c = asked_runs g.K.Actors.engine

pub returns-clause-same : goal.returns-clause-same
returns-clause-same g c = same_run g.K.Actors.engine

pub returns-clause-next : goal.returns-clause-next
returns-clause-next g c = same_next g.K.Actors.engine
