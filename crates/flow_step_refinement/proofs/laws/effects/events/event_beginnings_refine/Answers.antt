use Rattle.flow_step_refinement.proofs.Effects.Brings.{event_begins, delivered, arrived, stopped}
use Rattle.flow_step_refinement.proofs.laws.effects.events.event_beginnings_refine.Goals as goal

pub returns-clause-begins : goal.returns-clause-begins
returns-clause-begins c = event_begins

pub returns-clause-delivered : goal.returns-clause-delivered
returns-clause-delivered c = delivered

pub returns-clause-arrived : goal.returns-clause-arrived
returns-clause-arrived c = arrived

pub returns-clause-stopped : goal.returns-clause-stopped
returns-clause-stopped c = stopped
