use Rattle.flow_invariants.proofs.Fitting.Worlds.{starts_fit}
use Rattle.flow_invariants.proofs.Fitting.Runs.{events_keep_fitting, states_fit}
use Rattle.flow_invariants.proofs.laws.fitting.boundaries_fit.Goals as goal

pub returns-clause-starts : goal.returns-clause-starts
returns-clause-starts c = starts_fit

pub returns-clause-events : goal.returns-clause-events
returns-clause-events c = events_keep_fitting

pub returns-clause-states : goal.returns-clause-states
returns-clause-states c = states_fit
