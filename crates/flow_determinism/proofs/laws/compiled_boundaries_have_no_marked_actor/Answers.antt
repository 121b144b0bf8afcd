use Rattle.flow_determinism.proofs.Whole.{compiles_whole, programs_keep, programs_rest}
use Rattle.flow_determinism.proofs.laws.compiled_boundaries_have_no_marked_actor.Goals as goal

pub returns-clause-whole : goal.returns-clause-whole
returns-clause-whole c = compiles_whole

pub returns-clause-steps : goal.returns-clause-steps
returns-clause-steps c = programs_keep

pub returns-clause-states : goal.returns-clause-states
returns-clause-states c = programs_rest
