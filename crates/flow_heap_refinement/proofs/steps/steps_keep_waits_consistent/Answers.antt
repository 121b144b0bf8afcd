use Rattle.flow_heap_refinement.proofs.TidySteps.{steps_tied, deliveries_tied, arrivals_tied, boots_tied, stops_tied, idle_tied, vanished_tied, owners_stay}
use Rattle.flow_heap_refinement.proofs.steps.steps_keep_waits_consistent.Goals as goal

pub returns-clause-steps : goal.returns-clause-steps
returns-clause-steps c = steps_tied

pub returns-clause-deliveries : goal.returns-clause-deliveries
returns-clause-deliveries c = deliveries_tied

pub returns-clause-arrivals : goal.returns-clause-arrivals
returns-clause-arrivals c = arrivals_tied

pub returns-clause-boots : goal.returns-clause-boots
returns-clause-boots c = boots_tied

pub returns-clause-stops : goal.returns-clause-stops
returns-clause-stops c = stops_tied

pub returns-clause-idle : goal.returns-clause-idle
returns-clause-idle c = idle_tied

pub returns-clause-vanished : goal.returns-clause-vanished
returns-clause-vanished c = vanished_tied

pub returns-clause-owners : goal.returns-clause-owners
returns-clause-owners c = owners_stay
