use Rattle.flow_draw_laws.proofs.Listed.{same_taken, listed_run}
use Rattle.flow_draw_laws.proofs.Pinning.{pinned_run}
use Rattle.flow_draw_laws.proofs.laws.words_taken_decide_runs.Goals as goal

pub returns-clause-taken : goal.returns-clause-taken
returns-clause-taken g c = same_taken g.K.Actors.engine

pub returns-clause-listed : goal.returns-clause-listed
returns-clause-listed g c = listed_run g.K.Actors.engine

pub returns-clause-pinned : goal.returns-clause-pinned
returns-clause-pinned g c = pinned_run g.K.Actors.engine
