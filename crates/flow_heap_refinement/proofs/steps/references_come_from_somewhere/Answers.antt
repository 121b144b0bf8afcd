use Rattle.flow_heap_refinement.proofs.NamingSteps.{steps_named, any_made}
use Rattle.flow_heap_refinement.proofs.NamingDeliveries.{deliveries_named, arrivals_named, boots_named, stops_named}
use Rattle.flow_heap_refinement.proofs.steps.references_come_from_somewhere.Goals as goal

pub returns-clause-steps : goal.returns-clause-steps
returns-clause-steps c = steps_named

pub returns-clause-any : goal.returns-clause-any
returns-clause-any c = any_made

pub returns-clause-deliveries : goal.returns-clause-deliveries
returns-clause-deliveries c = deliveries_named

pub returns-clause-arrivals : goal.returns-clause-arrivals
returns-clause-arrivals c = arrivals_named

pub returns-clause-boots : goal.returns-clause-boots
returns-clause-boots c = boots_named

pub returns-clause-stops : goal.returns-clause-stops
returns-clause-stops c = stops_named
