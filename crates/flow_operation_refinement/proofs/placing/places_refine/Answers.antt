use Rattle.flow_operation_refinement.proofs.Places.{place_seen, place_changed}
use Rattle.flow_operation_refinement.proofs.Emptied.{locals_taken, locals_lost, all_lost}
use Rattle.flow_operation_refinement.proofs.placing.places_refine.Goals as goal

pub returns-clause-seen : goal.returns-clause-seen
returns-clause-seen c = place_seen

pub returns-clause-put : goal.returns-clause-put
returns-clause-put c = place_changed

pub returns-clause-taken : goal.returns-clause-taken
returns-clause-taken c = locals_taken

pub returns-clause-locals : goal.returns-clause-locals
returns-clause-locals c = locals_lost

pub returns-clause-all : goal.returns-clause-all
returns-clause-all c = all_lost
