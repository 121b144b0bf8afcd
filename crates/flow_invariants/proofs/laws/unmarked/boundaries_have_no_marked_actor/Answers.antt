use Rattle.flow_invariants.proofs.Unmarked.Worlds.{whole_rest, whole_keep}
use Rattle.flow_invariants.proofs.laws.unmarked.boundaries_have_no_marked_actor.Goals as goal

pub returns-clause-steps : goal.returns-clause-steps
returns-clause-steps c = whole_keep

pub returns-clause-states : goal.returns-clause-states
returns-clause-states c = whole_rest
