use Rattle.flow_invariants.proofs.Owned.Owns.{owns}
use Rattle.flow_invariants.proofs.Owned.Worlds.{steps_unset, valid_own}
use Rattle.flow_invariants.proofs.laws.owned.processes_own_their_cells.Goals as goal

pub returns-clause-steps : goal.returns-clause-steps
returns-clause-steps c = steps_unset

pub returns-clause-processes : goal.returns-clause-processes
returns-clause-processes c = owns

pub returns-clause-states : goal.returns-clause-states
returns-clause-states c = valid_own
