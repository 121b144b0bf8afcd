use Rattle.flow_heap_refinement.proofs.Alone.{owners_counted, stays_alone, born_alone}
use Rattle.flow_heap_refinement.proofs.Nobody.{nobody_else, nobody_yet}
use Rattle.flow_heap_refinement.proofs.Once.{ports_once, requests_once, one_reference}
use Rattle.flow_heap_refinement.proofs.Lonely.{steps_lonely, idle_lonely, vanished_lonely}
use Rattle.flow_heap_refinement.proofs.LonelyBrought.{deliveries_lonely, arrivals_lonely, boots_lonely, stops_lonely}
use Rattle.flow_heap_refinement.proofs.steps.owners_stay_alone.Goals as goal

pub returns-clause-counted : goal.returns-clause-counted
returns-clause-counted c = owners_counted

pub returns-clause-nobody_else : goal.returns-clause-nobody_else
returns-clause-nobody_else c = nobody_else

pub returns-clause-nobody_yet : goal.returns-clause-nobody_yet
returns-clause-nobody_yet c = nobody_yet

pub returns-clause-born : goal.returns-clause-born
returns-clause-born c = born_alone

pub returns-clause-stays : goal.returns-clause-stays
returns-clause-stays c = stays_alone

pub returns-clause-ports : goal.returns-clause-ports
returns-clause-ports c = ports_once

pub returns-clause-requests : goal.returns-clause-requests
returns-clause-requests c = requests_once

pub returns-clause-one : goal.returns-clause-one
returns-clause-one c = one_reference

pub returns-clause-steps : goal.returns-clause-steps
returns-clause-steps c = steps_lonely

pub returns-clause-idle : goal.returns-clause-idle
returns-clause-idle c = idle_lonely

pub returns-clause-vanished : goal.returns-clause-vanished
returns-clause-vanished c = vanished_lonely

pub returns-clause-deliveries : goal.returns-clause-deliveries
returns-clause-deliveries c = deliveries_lonely

pub returns-clause-arrivals : goal.returns-clause-arrivals
returns-clause-arrivals c = arrivals_lonely

pub returns-clause-boots : goal.returns-clause-boots
returns-clause-boots c = boots_lonely

pub returns-clause-stops : goal.returns-clause-stops
returns-clause-stops c = stops_lonely
