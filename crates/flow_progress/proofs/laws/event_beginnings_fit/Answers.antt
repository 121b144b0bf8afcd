use Rattle.flow_progress.proofs.Begun.{idle_fits, vanished_fits, stopped_fits}
use Rattle.flow_progress.proofs.Brought.{arrivals_fit, deliveries_fit}
use Rattle.flow_progress.specs.Written.{heads}
use Rattle.flow_progress.proofs.KeptClasses.{class_rules}
use Rattle.flow_progress.proofs.Boots.{boots_fit}
use Rattle.flow_progress.proofs.laws.event_beginnings_fit.Goals as goal

pub returns-clause-idle : goal.returns-clause-idle
returns-clause-idle c = idle_fits

pub returns-clause-vanished : goal.returns-clause-vanished
returns-clause-vanished c = vanished_fits

pub returns-clause-boots : goal.returns-clause-boots
returns-clause-boots c = λ r valid written functions. boots_fit r valid (heads r) (class_rules r valid written functions)

pub returns-clause-stopped : goal.returns-clause-stopped
returns-clause-stopped c = stopped_fits

pub returns-clause-arrivals : goal.returns-clause-arrivals
returns-clause-arrivals c = arrivals_fit

pub returns-clause-deliveries : goal.returns-clause-deliveries
returns-clause-deliveries c = deliveries_fit
