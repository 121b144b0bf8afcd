use Rattle.flow_burst_refinement.proofs.Boundaries.Bringing.{begin_brings, answer_brings, element_brings, stop_brings, burst_begins}
use Rattle.flow_burst_refinement.proofs.laws.boundaries.deliveries_begin_bursts.Goals as goal

pub returns-clause-begin : goal.returns-clause-begin
returns-clause-begin c = begin_brings

pub returns-clause-answer : goal.returns-clause-answer
returns-clause-answer c = answer_brings

pub returns-clause-element : goal.returns-clause-element
returns-clause-element c = element_brings

pub returns-clause-stop : goal.returns-clause-stop
returns-clause-stop c = stop_brings

pub returns-clause-burst : goal.returns-clause-burst
returns-clause-burst c = burst_begins
