use Rattle.flow_invariants.proofs.Fires.Brought.{steps_fire, rests_fired}
use Rattle.flow_invariants.proofs.Fires.Worlds.{valid_fired}
use Rattle.flow_invariants.proofs.laws.fires.waiters_at_ready_cells_are_fired.Goals as goal

pub returns-clause-steps : goal.returns-clause-steps
returns-clause-steps c = steps_fire

pub returns-clause-rests : goal.returns-clause-rests
returns-clause-rests c = rests_fired

pub returns-clause-states : goal.returns-clause-states
returns-clause-states c = valid_fired
